use Rattle.std.proofs.Common.{[], ◌∷◌, length, arith, length-append}
use Rattle.exi_proto.proofs.Lining.{text_next}
use Rattle.exi_proto.proofs.contents.push_states.Goals as goal

pub loop-state-preserved : goal.loop-state-preserved
loop-state-preserved c =
    let i = c.loop-state.invariant in
    let here = i.0 in
    let long = length-append c.loop-state.yielded (c.in-Some.state ∷ []) in (
      omega (arith, here, long),
      text_next c.args.mixed (length c.args.states.now) c.loop-state.place c.args.states.now c.loop-state.states c.push.new.self c.loop-state.yielded c.in-Some.state c.push_text.new.state i.1 here c.in_ok-push_text.ensures c.in_ok-push.ensures.ok,
    )
