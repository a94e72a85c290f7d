use Rattle.std.proofs.Common.{◌≡◌, ◌+◌, ◌*◌, ◌-◌, ◌/◌, ◌%◌, ◌^◌, take, drop, arith}
use Rattle.exi_bits.specs.Bits.{bits, value_of}
use Rattle.exi_bits.proofs.BitLaws.{value_below_at}
use Rattle.exi_bits.proofs.WordLaws.{word_at_bit_is}
use Rattle.exi_bits.proofs.words.word_at_bit.Goals as goal

pub overflow_add-result : goal.overflow_add-result
overflow_add-result c =
    let below = value_below_at 64 c.args.place (bits c.args.bytes.now) in
    let e : c.word_at.result * 2 ^ (c.args.place % 8) % 2 ^ 64 + c.from.result / 2 ^ (8 - c.args.place % 8) ≡ value_of (take 64 (drop c.args.place (bits c.args.bytes.now))) =
    rw (c.word_at.ensures, c.from.ensures) (word_at_bit_is c.args.bytes.now c.args.place c.requires.within (omega (arith, c.type_inv.bytes (c.args.place / 8 + 8)))) in
    omega arith

pub returns : goal.returns
returns c =
    rw (c.word_at.ensures, c.from.ensures) (word_at_bit_is c.args.bytes.now c.args.place c.requires.within (omega (arith, c.type_inv.bytes (c.args.place / 8 + 8))))
