use Rattle.std.proofs.Common.{get_or, ap, ◌∙◌, arith}
use Rattle.exi_names.specs.declared.datatype.Datatype.TheVariants as datatype
use Rattle.exi_names.specs.Datatypes.{represented, text}
use Rattle.xsd_model.specs.Parts.{representations}
use Rattle.exi_proto.specs.Lists.{list_of}
use Rattle.exi_proto.proofs.Forms.{around_item, got_at, if_ok_same, item_before, item_found, text_found, text_shown}
use Rattle.exi_proto.proofs.datatypes.datatype_at.Goals as goal

pub returns-in-None : goal.returns-in-None
returns-in-None c =
    if_ok_same c.list_of.result represented (list_of c.loop-alloc.depth (represented datatype.Text)) (get_or (representations c.args.forms.now) c.args.place text)
    (ap (list_of c.loop-alloc.depth) text_shown ∙ text_found c.args.forms.now c.loop-alloc.at c.loop-alloc.depth (get_or (representations c.args.forms.now) c.args.place text) c.in-None.ensures.lookup.0 c.loop-alloc.invariant.1)
    c.list_of.ensures

pub returns-in-Some-Item : goal.returns-in-Some-Item
returns-in-Some-Item c =
    if_ok_same c.list_of-in-Some-Item.result represented (list_of c.loop-alloc.depth (represented c.in_ok-copy-in-Some-Item.field-0)) (get_or (representations c.args.forms.now) c.args.place text)
    (item_found c.args.forms.now c.loop-alloc.at c.loop-alloc.depth c.in-Some-Item.field-0.now c.in-Some-Item.datatype (represented c.in_ok-copy-in-Some-Item.field-0) (get_or (representations c.args.forms.now) c.args.place text) c.requires.forms
    (got_at c.args.forms.now c.loop-alloc.at c.in-Some-Item.field-0.now c.in-Some-Item.ensures.lookup.0 c.in-Some-Item.ensures.lookup.1)
    c.in-Some-Item.field-0-is c.in_ok-copy-in-Some-Item.ensures c.loop-alloc.invariant.1)
    c.list_of-in-Some-Item.ensures

pub loop-alloc-smaller : goal.loop-alloc-smaller
loop-alloc-smaller c =
    item_before c.args.forms.now c.loop-alloc.at c.in-Some-List.item c.in-Some-List.field-0.now c.in-Some-List.field-0-is c.requires.forms
    (got_at c.args.forms.now c.loop-alloc.at c.in-Some-List.field-0.now c.in-Some-List.ensures.lookup.0 c.in-Some-List.ensures.lookup.1)

pub loop-alloc-preserved : goal.loop-alloc-preserved
loop-alloc-preserved c =
    let here = got_at c.args.forms.now c.loop-alloc.at c.in-Some-List.field-0.now c.in-Some-List.ensures.lookup.0 c.in-Some-List.ensures.lookup.1 in
    let less = item_before c.args.forms.now c.loop-alloc.at c.in-Some-List.item c.in-Some-List.field-0.now c.in-Some-List.field-0-is c.requires.forms here in
    let few = c.loop-alloc.invariant.0 in (
      omega (arith, less, few),
      around_item c.args.forms.now c.loop-alloc.at c.loop-alloc.depth c.in-Some-List.item c.in-Some-List.field-0.now c.in-Some-List.field-0-is c.requires.forms here ∙ c.loop-alloc.invariant.1,
    )
