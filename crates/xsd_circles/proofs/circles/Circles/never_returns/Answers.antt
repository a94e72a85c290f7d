use Rattle.std.proofs.Common.{◌∙◌}
use Rattle.xsd_circles.proofs.Reaching.{level_found}
use Rattle.xsd_circles.proofs.circles.Circles.never_returns.Goals as goal

pub returns-then-self : goal.returns-then-self
returns-then-self c = λ found. level_found c.self.inside.steps.now c.args.self.now c.self.inside.levels.items c.as_slice-levels.result.now c.args.place c.from-level.result c.steps.result.now c.are_under.result c.self.view_is (c.self.invariant c.if-self.true) c.as_slice-levels.ensures.value (c.from-level.ensures ∙ c.level_at.ensures) c.steps.ensures c.are_under.ensures found
