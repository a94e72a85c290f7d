use Rattle.std.proofs.Common.{refl, sym, ap, ◌∙◌, arith}
use Rattle.xsd_model.specs.Parts.{representations}
use Rattle.xsd_restrictions.proofs.Places.{item_at}
use Rattle.xsd_form_values.specs.Innermost.{innermost}
use Rattle.xsd_form_values.proofs.Places.{list_at}
use Rattle.xsd_form_values.proofs.values.innermost.Goals as goal

pub returns-in-Item : goal.returns-in-Item
returns-in-Item c =
    let forms = c.args.forms.now in
    c.loop-at.invariant.1
    ∙ ap innermost (item_at forms c.loop-at.at c.index-forms-at.result c.loop-at.invariant.0 (representations forms) refl c.in-Item.datatype (sym c.index-forms-at.is) c.in-Item.is)

pub loop-at-smaller : goal.loop-at-smaller
loop-at-smaller c =
    (list_at c.args.forms.now c.loop-at.at c.in-List.item c.index-forms-at.result c.requires.forms c.loop-at.invariant.0 (sym c.index-forms-at.is) c.in-List.is).0

pub loop-at-preserved : goal.loop-at-preserved
loop-at-preserved c =
    let at = list_at c.args.forms.now c.loop-at.at c.in-List.item c.index-forms-at.result c.requires.forms c.loop-at.invariant.0 (sym c.index-forms-at.is) c.in-List.is in
    let less = c.loop-at.invariant.0 in
    (omega (arith, at.0, less), c.loop-at.invariant.1 ∙ ap innermost at.1)
