use Rattle.std.proofs.Common.{length, sym, ap, ◌∙◌, arith}
use Rattle.xsd_model.specs.declared.parts.Form.{Form}
use Rattle.std.proofs.Common.{List, get_or}
use Rattle.xsd_restrictions.proofs.Places.{item_at, length_forms, list_at}
use Rattle.xsd_restrictions.proofs.forms.Forms.datatype.Goals as goal

pub bounds-as_slice-place : goal.bounds-as_slice-place
bounds-as_slice-place c =
    let l = ap length c.as_slice.ensures ∙ sym (length_forms c.self.inside.forms) ∙ ap length c.self.view_is in
    let less = c.requires in
    omega (arith, l, less)

pub returns-in-Item : goal.returns-in-Item
returns-in-Item c =
    let l = sym (length_forms c.self.inside.forms) ∙ ap length c.self.view_is in
    let less = c.requires in
    let f = c.index-as_slice-place.result in
    item_at c.self.inside.forms c.args.place f (omega (arith, l, less)) c.args.self.now c.self.view_is c.in-Item.datatype
    (ap (λ (fs : List Form). get_or fs c.args.place f) (sym c.as_slice.ensures) ∙ sym c.index-as_slice-place.is) c.in-Item.is

pub returns-in-List : goal.returns-in-List
returns-in-List c =
    let l = sym (length_forms c.self.inside.forms) ∙ ap length c.self.view_is in
    let less = c.requires in
    let f = c.index-as_slice-place.result in
    list_at c.self.inside.forms c.args.place f (omega (arith, l, less)) c.args.self.now c.self.view_is c.in-List.field-0
    (ap (λ (fs : List Form). get_or fs c.args.place f) (sym c.as_slice.ensures) ∙ sym c.index-as_slice-place.is) c.in-List.is
