use Rattle.std.proofs.Common.{inl, inr, ◌∙◌, arith}
use Rattle.std.proofs.lemmas.Bool.{cases_eq}
use Rattle.xsd_circles.proofs.Reaching.{rise_here}
use Rattle.xsd_circles.proofs.levels.never_rise.Goals as goal

pub loop-place-preserved : goal.loop-place-preserved
loop-place-preserved c = λ i less. elim (cases_eq i c.loop-place.place) [
  | inl same ↦ rise_here c.args.steps.now c.args.levels.now i c.loop-place.place c.from-bound.result c.steps.result.now c.are_under.result same (c.from-bound.ensures ∙ c.level_at.ensures) c.steps.ensures c.are_under.ensures c.if-not-are_under.false
  | inr n ↦ c.loop-place.invariant i (omega (arith, n, less))
]
