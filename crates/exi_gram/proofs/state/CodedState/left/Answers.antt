use Rattle.std.proofs.Common.{List, filter, length, take, ap, ◌∙◌, arith}
use Rattle.std.proofs.lemmas.List.{length-take}
use Rattle.exi_gram.specs.declared.code.Coded.{Coded}
use Rattle.exi_gram.specs.Books.{is_kept}
use Rattle.exi_gram.specs.Tables.{items_of, with_firsts}
use Rattle.exi_gram.proofs.Leaving.{left_part, left_starts, part_of, room_for_part}
use Rattle.exi_gram.proofs.TableLists.{follow_within}
use Rattle.exi_gram.proofs.state.CodedState.left.Goals as goal

pub slice_bounds-push_firsts-end : goal.slice_bounds-push_firsts-end
slice_bounds-push_firsts-end c =
    omega (arith, length-take c.self.inside.firsts c.deref.result.now, ap length c.deref.ensures.value, follow_within _ _ _ c.self.invariant.follow)

pub loop-part-init : goal.loop-part-init
loop-part-init c =
    left_starts (is_kept c.args.options.now) c.self.inside.coded.items c.self.inside.firsts c.self.inside.seconds.items _ _ c.new-left.ensures
    (c.in_ok-push_firsts.ensures ∙ ap (λ (z : List Coded). with_firsts c.new-left.result (filter (is_kept c.args.options.now) (items_of (take c.self.inside.firsts z)))) c.deref.ensures.value)

pub push_part-requires-clause-within : goal.push_part-requires-clause-within
push_part-requires-clause-within c = (part_of _ _ _ _ _ _ _ c.self.invariant c.deref-in-loop-part.ensures.value c.deref-part-items.ensures.value c.loop-part-test.true).0

pub push_part-requires-clause-some : goal.push_part-requires-clause-some
push_part-requires-clause-some c = (part_of _ _ _ _ _ _ _ c.self.invariant c.deref-in-loop-part.ensures.value c.deref-part-items.ensures.value c.loop-part-test.true).1

pub push_part-requires-clause-one : goal.push_part-requires-clause-one
push_part-requires-clause-one c = (part_of _ _ _ _ _ _ _ c.self.invariant c.deref-in-loop-part.ensures.value c.deref-part-items.ensures.value c.loop-part-test.true).2

pub push_part-requires-clause-room : goal.push_part-requires-clause-room
push_part-requires-clause-room c = room_for_part (is_kept c.args.options.now) _ _ _ _ _ _ _ c.self.invariant c.deref-part-items.ensures.value c.loop-part-test.true c.loop-part.invariant

pub loop-part-preserved : goal.loop-part-preserved
loop-part-preserved c = left_part (is_kept c.args.options.now) _ _ _ _ _ _ _ c.loop-part.left _ c.deref-in-loop-part.ensures.value c.deref-part-items.ensures.value c.loop-part-test.true c.loop-part.invariant c.in_ok-push_part.ensures
