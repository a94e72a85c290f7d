use Rattle.std.proofs.Common.{◌≡◌, ◌++◌, length, map, rules, ap, sym, ◌∙◌, arith, length-append}
use Rattle.exi_tape.specs.Rolls.{backwards}
use Rattle.exi_tape.specs.Walks.{left}
use Rattle.exi_tape.proofs.Pieces.{bytes_are, bytes_cut, gathered}
use Rattle.exi_tape.proofs.walk.Walk.gather.Goals as goal

pub returns-then-is_empty-clause-read : goal.returns-then-is_empty-clause-read
returns-then-is_empty-clause-read c =
    let inv = c.loop-missing.invariant in let some = c.loop-missing-test.true in
    let none : length c.turn.new.self.rest.now ≡ 0 = search rules in
    bytes_cut c.args.count c.loop-missing.self.pieces.items (left c.loop-missing.self) (left c.args.self.now) inv.so_far (sym c.turn.ensures.left ∙ c.turn.ensures.none none) (omega (arith, inv.count))

pub loop-missing-preserved : goal.loop-missing-preserved
loop-missing-preserved c =
    let inv = c.loop-missing.invariant in let front = c.split_at.result.0.now in let back = c.split_at.result.1.now in
    let grown : c.extend_from_slice.new.self.items ≡ c.loop-missing.self.pieces.items ++ front = c.in_ok-extend_from_slice.ensures.items ∙ ap (λ v. v.items ++ front) c.turn.ensures.pieces in
    record {
      so_far = gathered c.loop-missing.self.pieces.items front back (backwards (map (λ s. s.now) c.turn.new.self.later.items)) c.turn.new.self.rest.now (left c.args.self.now) c.extend_from_slice.new.self.items grown c.split_at.ensures.by_index.0
          (ap (λ l. c.loop-missing.self.pieces.items ++ l) c.turn.ensures.left ∙ inv.so_far);
      count = omega (arith, inv.count, ap length grown, length-append c.loop-missing.self.pieces.items front, c.split_at.ensures.front_len, c.min-step.ensures);
    }

pub returns-clause-read : goal.returns-clause-read
returns-clause-read c =
    let inv = c.loop-missing.invariant in let test = c.loop-missing-test.false in
    bytes_are c.args.count c.loop-missing.self.pieces.items (left c.loop-missing.self) (left c.args.self.now) inv.so_far (omega (arith, inv.count))
