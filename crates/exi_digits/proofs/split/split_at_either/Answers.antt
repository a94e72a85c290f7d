use Rattle.std.proofs.Common.{◌+◌, List, ℕ, Some, ap, ◌∙◌, arith, get_or}
use Rattle.exi_digits.specs.Splits.{is_either}
use Rattle.exi_digits.proofs.Splitting.{all_behind, first_is, neither, passed_all, passed_more, passed_none, passed_to, second_is}
use Rattle.exi_digits.proofs.split.split_at_either.Goals as goal
use Rattle.exi_digits.proofs.split.split_at_either.Goals.{then-byte-first-via-then-byte-first, then-byte-first-via-else-byte-first+then-byte-second}

pub loop-place-init : goal.loop-place-init
loop-place-init c = passed_none (is_either c.args.first c.args.second) c.args.text.now

pub returns-then-byte-first-clause-before : goal.returns-then-byte-first-clause-before
returns-then-byte-first-clause-before c =
    (passed_to (is_either c.args.first c.args.second) c.args.text.now c.loop-place.place (omega arith) (elim c.then-byte-first.branch [
      | then-byte-first-via-then-byte-first w ↦ first_is c.args.first c.args.second (get_or c.args.text.now c.loop-place.place 0) w.if-byte-first.true
      | then-byte-first-via-else-byte-first+then-byte-second w ↦ second_is c.args.first c.args.second (get_or c.args.text.now c.loop-place.place 0) w.if-byte-second.true
    ]) c.loop-place.invariant).0

pub returns-then-byte-first-clause-behind : goal.returns-then-byte-first-clause-behind
returns-then-byte-first-clause-behind c =
    ap (λ (t : List ℕ). Some t) (all_behind c.args.text.now (c.loop-place.place + 1)) ∙ (passed_to (is_either c.args.first c.args.second) c.args.text.now c.loop-place.place (omega arith) (elim c.then-byte-first.branch [
      | then-byte-first-via-then-byte-first w ↦ first_is c.args.first c.args.second (get_or c.args.text.now c.loop-place.place 0) w.if-byte-first.true
      | then-byte-first-via-else-byte-first+then-byte-second w ↦ second_is c.args.first c.args.second (get_or c.args.text.now c.loop-place.place 0) w.if-byte-second.true
    ]) c.loop-place.invariant).1

pub loop-place-preserved : goal.loop-place-preserved
loop-place-preserved c = passed_more (is_either c.args.first c.args.second) c.args.text.now c.loop-place.place (omega arith) (neither c.args.first c.args.second (get_or c.args.text.now c.loop-place.place 0) c.if-byte-first.false c.if-byte-second.false) c.loop-place.invariant

pub returns-clause-before : goal.returns-clause-before
returns-clause-before c = (passed_all (is_either c.args.first c.args.second) c.args.text.now c.loop-place.place (omega arith) c.loop-place.invariant).0

pub returns-clause-behind : goal.returns-clause-behind
returns-clause-behind c = (passed_all (is_either c.args.first c.args.second) c.args.text.now c.loop-place.place (omega arith) c.loop-place.invariant).1
