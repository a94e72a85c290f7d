use Rattle.std.proofs.Common.{◌≡◌, ◌<◌, length}
use Rattle.xsd_model.specs.Parts.{representations}
use Rattle.xsd_form_values.specs.Innermost.{innermost}
use Rattle.xsd_restrictions.specs.Restrictions.{form_at}
use Rattle.xsd_form_values.proofs.values.innermost.Given as goal

abbrev pub invariant-loop-at : goal.invariant-loop-at
invariant-loop-at l =
    (l.at < length l.fn.forms)
    × (innermost (form_at (representations l.fn.forms) l.fn.place) ≡ innermost (form_at (representations l.fn.forms) l.at))

abbrev pub decreases-loop-at : goal.decreases-loop-at
decreases-loop-at l = l.at
