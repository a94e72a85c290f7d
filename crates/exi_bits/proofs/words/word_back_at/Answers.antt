use Rattle.std.proofs.Common.{◌≡◌, ◌+◌, ◌-◌, arith}
use Rattle.exi_bits.proofs.WordLaws.{back_word_of_octets}
use Rattle.exi_bits.proofs.words.word_back_at.Goals as goal

pub returns : goal.returns
returns c =
    let eight : c.args.first + 8 - c.args.first ≡ 8 = omega arith in
    rw (c.from_le_bytes.ensures, c.copy_from_slice.ensures.after, eight) (back_word_of_octets c.args.bytes.now c.args.first c.requires.within)
