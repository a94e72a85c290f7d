use Rattle.std.proofs.Common.{refl, arith, take, ◌<◌, ◌^◌, ◌*◌}
use Rattle.std.proofs.lemmas.List.{length-take}
use Rattle.exi_bits.specs.Bits.{bits, value_of}
use Rattle.exi_bits.proofs.BitLaws.{gathered_more, gathered_below}
use Rattle.exi_bits.proofs.words.gathered_few.Goals as goal

pub loop-byte-init : goal.loop-byte-init
unfolding bits value_of
loop-byte-init c = refl

pub overflow_mul-all : goal.overflow_mul-all
overflow_mul-all c =
    let i = c.loop-byte.byte-index in
    let h : value_of (bits (take i c.args.bytes.now)) < 2 ^ (8 * 6) = gathered_below (take i c.args.bytes.now) 6 (omega (arith, length-take i c.args.bytes.now)) in
    omega (arith, c.loop-byte.invariant)

pub overflow_add-all : goal.overflow_add-all
overflow_add-all c =
    let i = c.loop-byte.byte-index in
    let h : value_of (bits (take i c.args.bytes.now)) < 2 ^ (8 * 6) = gathered_below (take i c.args.bytes.now) 6 (omega (arith, length-take i c.args.bytes.now)) in
    omega (arith, c.loop-byte.invariant, c.type_inv.bytes i)

pub loop-byte-preserved : goal.loop-byte-preserved
loop-byte-preserved c =
    rw (c.loop-byte.invariant, c.from.ensures) (gathered_more c.args.bytes.now c.loop-byte.byte-index c.loop-byte-test.true (omega (arith, c.type_inv.bytes c.loop-byte.byte-index)))
