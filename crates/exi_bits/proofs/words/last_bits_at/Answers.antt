use Rattle.std.proofs.Common.{◌<◌, arith}
use Rattle.std.proofs.lemmas.Nat.{and_mask, one_shl}
use Rattle.exi_bits.proofs.BitLaws.{number_in_bytes}
use Rattle.exi_bits.proofs.words.last_bits_at.Goals as goal

pub returns : goal.returns
returns c =
    let lt : c.args.width < 128 = omega arith in
    rw (c.from.ensures, one_shl c.args.width 128 lt, and_mask, c.gathered.ensures, c.from.ensures) (number_in_bytes c.args.bytes.now c.args.place c.args.width c.requires.within)
