use Rattle.std.proofs.Common.{◌≡◌, ◌-◌, ◌*◌, ◌%◌, ◌<◌, ◌^◌, ◌++◌, ◌∙◌, arith, bit_and}
use Rattle.std.proofs.lemmas.Nat.{and_mask, one_shl, mod_below, pow_pos}
use Rattle.exi_bits.specs.Bits.{bits, number_bits}
use Rattle.exi_bits.proofs.BitLaws.{byte_out, byte_fits, last_fits, last_out, left_none}
use Rattle.exi_bits.proofs.bit_out.push_bits.Goals as goal

pub overflow_cast-rest : goal.overflow_cast-rest
overflow_cast-rest c = let f = byte_fits c.loop-left.left c.loop-left.rest c.loop-left-test.true c.loop-left.invariant.fits in omega arith

pub loop-left-preserved : goal.loop-left-preserved
loop-left-preserved c =
    let lt : c.loop-left.left - 8 < 64 = omega arith in
    let e : bit_and c.loop-left.rest (1 * 2 ^ (c.loop-left.left - 8) % 2 ^ 64 - 1) ≡ c.loop-left.rest % 2 ^ (c.loop-left.left - 8) = rw (one_shl (c.loop-left.left - 8) 64 lt) (and_mask c.loop-left.rest (c.loop-left.left - 8)) in
    record {
      so_far = rw (c.push_reserved.ensures.items, e) (byte_out c.loop-left.bytes.items c.loop-left.left c.loop-left.rest c.loop-left-test.true c.loop-left.invariant.fits ∙ c.loop-left.invariant.so_far);
      fits = rw e (mod_below c.loop-left.rest (2 ^ (c.loop-left.left - 8)) (pow_pos (c.loop-left.left - 8)));
      narrow = omega (arith, c.loop-left.invariant.narrow);
      room = omega (arith, c.loop-left.invariant.room, c.push_reserved.ensures.len, c.push_reserved.ensures.capacity);
    }

pub returns-then-left-eq0-clause-bits : goal.returns-then-left-eq0-clause-bits
returns-then-left-eq0-clause-bits c =
    left_none (bits c.loop-left.bytes.items) (bits c.args.bytes.now.items ++ number_bits c.args.width c.args.value) c.loop-left.left c.loop-left.rest c.if-left-eq0.true c.loop-left.invariant.so_far

pub overflow_cast-rest-2 : goal.overflow_cast-rest-2
overflow_cast-rest-2 c = let f = last_fits c.loop-left.left c.loop-left.rest (omega arith) c.loop-left.invariant.fits in omega arith

pub returns-clause-bits : goal.returns-clause-bits
returns-clause-bits c =
    let f : c.loop-left.rest * 2 ^ (8 - c.loop-left.left) < 2 ^ 8 = last_fits c.loop-left.left c.loop-left.rest (omega arith) c.loop-left.invariant.fits in
    let e : c.loop-left.rest * 2 ^ (8 - c.loop-left.left) % 2 ^ 64 ≡ c.loop-left.rest * 2 ^ (8 - c.loop-left.left) = omega arith in
    rw (c.push_reserved-2.ensures.items, e) (last_out c.loop-left.bytes.items (bits c.args.bytes.now.items ++ number_bits c.args.width c.args.value) c.loop-left.left c.loop-left.rest (omega arith) c.loop-left.invariant.fits c.loop-left.invariant.so_far)
