use Rattle.std.proofs.Common.{List, ℕ, ◌++◌, ◌∷◌, sym, ap, ◌∙◌}
use Rattle.exi_evtext.proofs.Cursors.{past_mark}
use Rattle.exi_evtext.proofs.frequent.plain_last.Goals as goal

pub returns-clause-parts : goal.returns-clause-parts
returns-clause-parts c =
    c.in_ok-text.ensures.parts ∙ ap (λ (x : List ℕ). c.in_ok-text.text ++ 34 ∷ x) (past_mark 10 c.in_ok-text.rest.now c.in_ok-behind_mark.field-0.now (sym c.in_ok-behind_mark.ensures))
