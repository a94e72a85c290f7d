use Rattle.std.proofs.Common.{sym, ap, ◌∙◌}
use Rattle.exi_inherited.specs.Shown.{built_on, whole_of}
use Rattle.exi_inherited.proofs.Builds.{built_push}
use Rattle.exi_inherited.proofs.content.content_of.Goals as goal

pub loop-place-preserved : goal.loop-place-preserved
loop-place-preserved c =
    let p = c.args.parts.now in
    ap (built_on p c.pop.new.self.items) c.in_ok-whole.ensures
    ∙ sym (built_push p c.pop.new.self.items c.in-Some.place (whole_of c.loop-place.whole))
    ∙ ap (λ places. built_on p places (whole_of c.loop-place.whole)) (sym c.in-Some.ensures.items)
    ∙ c.loop-place.invariant
