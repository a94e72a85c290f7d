use Rattle.std.proofs.Common.{◌≡◌, Bool, IfOk, refl, sym, ap, subst, ◌∙◌, arith}
use Rattle.std.specs.Option.{is_some}
use Rattle.exi_names.specs.Datatypes.{Representation, represented}
use Rattle.exi_lexical.specs.Values.{value}
use Rattle.xsd_model.specs.Parts.{representations}
use Rattle.xsd_restrictions.specs.Restrictions.{form_at}
use Rattle.xsd_restrictions.proofs.Places.{item_at}
use Rattle.xsd_form_values.proofs.Places.{list_at}
use Rattle.xsd_form_values.proofs.Words.{same_lists}
use Rattle.xsd_form_values.proofs.values.has_value.Goals as goal

pub innermost-requires-clause-there : goal.innermost-requires-clause-there
innermost-requires-clause-there c =
    let at = list_at c.args.forms.now c.args.place c.in-List.item c.index-forms-place.result c.requires.forms c.requires.there (sym c.index-forms-place.is) c.in-List.is in
    omega (arith, at.0, c.requires.there)

pub returns-in-Item : goal.returns-in-Item
returns-in-Item c =
    let forms = c.args.forms.now in
    let at = item_at forms c.args.place c.index-forms-place.result c.requires.there (representations forms) refl c.in-Item.datatype (sym c.index-forms-place.is) c.in-Item.is in
    subst (λ (r : Representation). IfOk c.has_value.result (λ has. has ≡ is_some (value r c.args.text.now))) (sym at) c.has_value.ensures

pub returns-in-List : goal.returns-in-List
returns-in-List c =
    let forms = c.args.forms.now in
    let text = c.args.text.now in
    let at = list_at forms c.args.place c.in-List.item c.index-forms-place.result c.requires.forms c.requires.there (sym c.index-forms-place.is) c.in-List.is in
    let same = same_lists (form_at (representations forms) c.in-List.item) (represented c.innermost.result.now) c.innermost.ensures text in
    subst (λ (b : Bool). IfOk c.has_items.result (λ has. has ≡ b)) (sym (ap (λ (r : Representation). is_some (value r text)) at.1 ∙ same)) c.has_items.ensures
