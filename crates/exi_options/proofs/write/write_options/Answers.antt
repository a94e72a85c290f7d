use Rattle.std.proofs.Common.{◌<◌, ◌≡◌, ◌∙◌, Some, sym, subst}
use Rattle.exi_options.specs.declared.table.State.{State}
use Rattle.exi_options.specs.Document.{ahead}
use Rattle.exi_options.specs.Writing.{chosen}
use Rattle.exi_options.proofs.Writes.{Adds, adds_on, adds_starts, adds_stops, chosen_is, err_holds}
use Rattle.exi_options.proofs.write.write_options.Goals as goal

pub loop-place-init : goal.loop-place-init
loop-place-init c = adds_starts c.args.options.now c.args.out.now

pub returns-in_err-state-clause-err : goal.returns-in_err-state-clause-err
returns-in_err-state-clause-err c =
    let e : chosen c.args.options.now c.loop-place.state ≡ Some c.in-Some.place = sym c.chosen.ensures ∙ c.in-Some.is in
    err_holds _ _ (adds_stops c.args.options.now c.args.out.now c.loop-place.state c.loop-place.out c.put_piece.new.out c.in-Some.place e c.in_err-state.ensures.err c.loop-place.invariant)

pub loop-place-smaller : goal.loop-place-smaller
loop-place-smaller c =
    let e : chosen c.args.options.now c.loop-place.state ≡ Some c.in-Some.place = sym c.chosen.ensures ∙ c.in-Some.is in
    subst (λ (next : State). ahead next < ahead c.loop-place.state) (sym c.in_ok-state.ensures.next) (chosen_is c.args.options.now c.loop-place.state c.in-Some.place e).less

pub loop-place-preserved : goal.loop-place-preserved
loop-place-preserved c =
    let e : chosen c.args.options.now c.loop-place.state ≡ Some c.in-Some.place = sym c.chosen.ensures ∙ c.in-Some.is in
    subst (λ (next : State). Adds c.args.options.now c.args.out.now next c.put_piece.new.out) (sym c.in_ok-state.ensures.next)
    (adds_on c.args.options.now c.args.out.now c.loop-place.state c.loop-place.out c.put_piece.new.out c.in-Some.place e c.in_ok-state.ensures.ok c.loop-place.invariant)
