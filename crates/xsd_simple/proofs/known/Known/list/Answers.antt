use Rattle.std.proofs.Common.{◌≡◌, Option, IfOk, subst, ap, ◌∙◌}
use Rattle.exi_names.specs.Datatypes.{Representation}
use Rattle.xsd_components.specs.References.{item}
use Rattle.xsd_components.specs.declared.type_at.TypeAt.{TypeAt}
use Rattle.xsd_restrictions.specs.Entries.{simple_at}
use Rattle.xsd_restrictions.specs.Restrictions.{Simple, any_simple_but, form_at, form_of, listed}
use Rattle.xsd_simple.specs.Kept.{simples, told}
use Rattle.xsd_simple.specs.Simple.{if_type}
use Rattle.xsd_simple.proofs.Table.{found_entry, found_simple}
use Rattle.xsd_simple.proofs.known.Known.list.Goals as goal

pub list_of-requires-clause-there : goal.list_of-requires-clause-there
list_of-requires-clause-there c =
    let is = found_entry c.args.schema.now c.args.forms.now c.args.self.now.entries.items c.args.self.now.places.items c.requires.known c.in_ok-item.item c.entry_if.result.now c.entry_if.ensures in
    is.there

pub returns-clause-simple : goal.returns-clause-simple
returns-clause-simple c =
    let ns = c.args.schema.now in
    let forms = c.args.forms.now in
    let es = c.args.self.now.entries.items in
    let places = c.args.self.now.places.items in
    let r = c.entry_if.result.now in
    let o = c.in_ok-item.item in
    let is = found_entry ns forms es places c.requires.known o r c.entry_if.ensures in
    let o_is : o ≡ item ns c.args.derivation = c.in_ok-item.ensures in
    let form : form_at forms r.form ≡ form_of (if_type (told ns (simples forms es) places) (item ns c.args.derivation)) =
    is.form
    ∙ ap form_of (found_simple ns forms es places c.requires.known o r c.entry_if.ensures)
    ∙ ap (λ (t : Option TypeAt). form_of (if_type (told ns (simples forms es) places) t)) o_is in
    subst (λ (s : Simple). IfOk c.list_of.result (λ e. simple_at c.list_of.new.forms e ≡ s)) (ap (λ (q : Representation). any_simple_but (listed q)) form) c.list_of.ensures.simple
