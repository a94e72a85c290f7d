use Rattle.std.proofs.Common.{◌<◌, ◌+◌, ◌%◌, ◌/◌, arith, get_or}
use Rattle.std.proofs.lemmas.Nat.{and_mask, one_shl}
use Rattle.exi_bits.proofs.BitLaws.{in_one_byte, in_two_bytes}
use Rattle.exi_bits.proofs.words.narrow_at.Goals as goal

pub returns-then-past-le8 : goal.returns-then-past-le8
returns-then-past-le8 c =
    let lt : c.args.width < 32 = omega arith in
    let fits : get_or c.args.bytes.now (c.args.place / 8) 0 < 256 = omega (arith, c.type_inv.bytes (c.args.place / 8)) in
    record { value = rw (c.from-then-past-le8.ensures, one_shl c.args.width 32 lt, and_mask, c.from.ensures) (in_one_byte c.args.bytes.now c.args.place c.args.width c.requires.some c.if-past-le8.true c.requires.within fits) }

pub returns : goal.returns
returns c =
    let lt : c.args.width < 32 = omega arith in
    let fits : get_or c.args.bytes.now (c.args.place / 8) 0 < 256 = omega (arith, c.type_inv.bytes (c.args.place / 8)) in
    let more : get_or c.args.bytes.now (c.args.place / 8 + 1) 0 < 256 = omega (arith, c.type_inv.bytes (c.args.place / 8 + 1)) in
    let two : 8 < c.args.place % 8 + c.args.width = omega arith in
    record { value = rw (c.from-4.ensures, one_shl c.args.width 32 lt, and_mask, c.from-2.ensures, c.from-3.ensures) (in_two_bytes c.args.bytes.now c.args.place c.args.width c.requires.narrow two c.requires.within fits more) }
