use Rattle.std.proofs.Common.{false, get_or, ap, ◌∙◌}
use Rattle.xsd_circles.specs.Circles.{reaches_itself}
use Rattle.xsd_circles.proofs.Searching.{searched_answer}
use Rattle.xsd_circles.proofs.circles.Circles.reaches_itself.Goals as goal

pub returns : goal.returns
returns c =
    c.is_met.ensures
    ∙ ap (λ met. get_or met c.args.place false) c.as_slice.ensures.value
    ∙ searched_answer c.self.inside.steps.now c.args.place c.in_ok-met.met.items c.in_ok-met.ensures
    ∙ ap (λ ns. reaches_itself ns c.args.place) c.self.view_is
