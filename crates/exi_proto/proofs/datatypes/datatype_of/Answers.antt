use Rattle.std.proofs.Common.{get_or, ◌∙◌}
use Rattle.exi_names.specs.Datatypes.{represented, text}
use Rattle.xsd_model.specs.Parts.{representations}
use Rattle.exi_proto.specs.Protos.{representation_of}
use Rattle.exi_proto.proofs.Forms.{complex_found, if_ok_same, simple_found, text_none, text_shown, type_at, ur_found}
use Rattle.exi_proto.proofs.datatypes.datatype_of.Goals as goal

pub returns-in_default : goal.returns-in_default
returns-in_default c = text_shown ∙ text_none c.args.parts.now c.types.result.now c.args.of c.types.ensures.types c.in_default.ensures.lookup.0

pub returns-in-Simple : goal.returns-in-Simple
returns-in-Simple c =
    if_ok_same c.datatype_at.result represented (get_or (representations c.forms.result.now) c.in-Simple.form text) (representation_of c.args.parts.now c.args.of)
    (simple_found c.args.parts.now c.args.of c.in-Some.of.now c.in-Simple.form c.in-Simple.union (representations c.forms.result.now) (type_at c.args.parts.now c.types.result.now c.args.of c.in-Some.of.now c.types.ensures.types c.in-Some.ensures.lookup.0 c.in-Some.ensures.lookup.1) c.in-Simple.is c.forms.ensures.forms)
    c.datatype_at.ensures

pub returns-in-Complex : goal.returns-in-Complex
returns-in-Complex c = text_shown ∙ complex_found c.args.parts.now c.args.of c.in-Some.of.now c.in-Complex.field-0 (type_at c.args.parts.now c.types.result.now c.args.of c.in-Some.of.now c.types.ensures.types c.in-Some.ensures.lookup.0 c.in-Some.ensures.lookup.1) c.in-Complex.is

pub returns-in-Ur : goal.returns-in-Ur
returns-in-Ur c = text_shown ∙ ur_found c.args.parts.now c.args.of c.in-Some.of.now (type_at c.args.parts.now c.types.result.now c.args.of c.in-Some.of.now c.types.ensures.types c.in-Some.ensures.lookup.0 c.in-Some.ensures.lookup.1) c.in-Ur.is
