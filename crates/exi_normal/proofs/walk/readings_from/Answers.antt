use Rattle.std.proofs.Common.{◌≡◌, ◌++◌, ◌∙◌, [], ap, false, map, sym, subst, true}
use Rattle.std.specs.Prelude.{reverse}
use Rattle.std.proofs.lemmas.Bool.{cases_Bool}
use Rattle.std.proofs.lemmas.List.{nil_from_length}
use Rattle.exi_gram.specs.Reaching.{is_among}
use Rattle.exi_normal.specs.Numbers.{into}
use Rattle.exi_normal.proofs.Walking.{IsWalked, come_smaller, pop_smaller, walk_begins, walk_comes, walk_ends, walk_reads, walk_skips}
use Rattle.exi_normal.proofs.walk.readings_from.Goals as goal

pub loop-next-init : goal.loop-next-init
loop-next-init c =
    let todo = c.begin.new.todo.items in
    let e : reverse todo ≡ map into c.args.members.now ++ reverse [] = c.in_ok-begin.ensures ∙ ap (λ z. map into c.args.members.now ++ reverse z) c.new-todo.ensures.items in
    subst (λ z. IsWalked c.args.states.now c.args.members.now z c.clear.new.self todo) (sym c.new-readings.ensures.items)
    (subst (λ z. IsWalked c.args.states.now c.args.members.now [] z todo) (sym c.clear.ensures) (walk_begins c.args.states.now c.args.members.now todo e))

pub loop-next-smaller-in-Continue-branch-2 : goal.loop-next-smaller-in-Continue-branch-2
loop-next-smaller-in-Continue-branch-2 c = pop_smaller c.args.states.now c.loop-next.seen c.loop-next.todo.items c.pop.new.self.items c.in-Some.next c.in-Some.ensures.items

pub loop-next-preserved-in-Continue-branch-2 : goal.loop-next-preserved-in-Continue-branch-2
loop-next-preserved-in-Continue-branch-2 c =
    walk_reads c.args.states.now c.args.members.now c.loop-next.readings.items c.push.new.self.items c.loop-next.seen c.loop-next.todo.items c.pop.new.self.items c.in-Some.next c.in-Some-on.on c.in-Some.ensures.items c.in-Some-on.is
    c.in_ok-push-in-Some-on.ensures.items c.loop-next.invariant

pub loop-next-smaller-in-Continue-branch-4 : goal.loop-next-smaller-in-Continue-branch-4
loop-next-smaller-in-Continue-branch-4 c =
    come_smaller c.args.states.now c.loop-next.seen c.put.new.self c.loop-next.todo.items c.pop.new.self.items c.come_to.new.todo.items c.in-Some.next c.in-Some.ensures.items (sym c.has.ensures ∙ c.if-not-has.true)
    c.in_ok-put-in-None.ensures c.in_ok-come_to-in-None.ensures

pub loop-next-preserved-in-Continue-branch-4 : goal.loop-next-preserved-in-Continue-branch-4
loop-next-preserved-in-Continue-branch-4 c =
    walk_comes c.args.states.now c.args.members.now c.loop-next.readings.items c.loop-next.seen c.put.new.self c.loop-next.todo.items c.pop.new.self.items c.come_to.new.todo.items c.in-Some.next c.in-Some.ensures.items c.in-None.is
    (sym c.has.ensures ∙ c.if-not-has.true) c.in_ok-put-in-None.ensures c.in_ok-come_to-in-None.ensures c.loop-next.invariant

pub loop-next-smaller : goal.loop-next-smaller
loop-next-smaller c = pop_smaller c.args.states.now c.loop-next.seen c.loop-next.todo.items c.pop.new.self.items c.in-Some.next c.in-Some.ensures.items

pub loop-next-preserved : goal.loop-next-preserved
loop-next-preserved c =
    walk_skips c.args.states.now c.args.members.now c.loop-next.readings.items c.loop-next.seen c.loop-next.todo.items c.pop.new.self.items c.in-Some.next c.in-Some.ensures.items c.in-None.is (sym c.has.ensures ∙ c.if-not-has.false)
    c.loop-next.invariant

pub returns : goal.returns
returns c = walk_ends c.args.states.now c.args.members.now c.loop-next.readings.items c.loop-next.seen c.loop-next.todo.items (nil_from_length c.loop-next.todo.items (sym c.loop-next.todo.ok.0 ∙ c.in_default.ensures.cases.0)) c.loop-next.invariant
