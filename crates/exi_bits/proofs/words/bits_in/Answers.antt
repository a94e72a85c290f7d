use Rattle.std.proofs.Common.{◌≤◌, ◌+◌, ◌*◌, arith, drop, length}
use Rattle.std.proofs.lemmas.List.{length-drop}
use Rattle.exi_bits.specs.Bits.{bits}
use Rattle.exi_bits.proofs.BitLaws.{length-bits, value_below_at}
use Rattle.exi_bits.proofs.WordLaws.{first_bits}
use Rattle.exi_bits.proofs.words.bits_in.Goals as goal

pub returns-then-place-bytes-clause-below : goal.returns-then-place-bytes-clause-below
returns-then-place-bytes-clause-below c = rw c.quick_at.ensures (value_below_at c.args.width c.args.place (bits c.args.bytes.now))

pub returns-then-place-bytes-2-clause-read : goal.returns-then-place-bytes-2-clause-read
returns-then-place-bytes-2-clause-read c =
    let long : 64 ≤ length (drop c.args.place (bits c.args.bytes.now)) = omega (arith, length-drop c.args.place (bits c.args.bytes.now), length-bits c.args.bytes.now) in
    let enough : c.args.place + c.args.width ≤ 8 * length c.args.bytes.now = omega arith in (
      enough,
      rw c.word_at_bit.ensures (first_bits (drop c.args.place (bits c.args.bytes.now)) c.args.width 64 c.requires.narrow long),
    )

pub returns-then-place-bytes-2-clause-below : goal.returns-then-place-bytes-2-clause-below
returns-then-place-bytes-2-clause-below c =
    let long : 64 ≤ length (drop c.args.place (bits c.args.bytes.now)) = omega (arith, length-drop c.args.place (bits c.args.bytes.now), length-bits c.args.bytes.now) in
    rw (c.word_at_bit.ensures, first_bits (drop c.args.place (bits c.args.bytes.now)) c.args.width 64 c.requires.narrow long) (value_below_at c.args.width c.args.place (bits c.args.bytes.now))
