use Rattle.std.proofs.Common.{◌≡◌, ◌+◌, ◌-◌, arith}
use Rattle.exi_bits.proofs.WordLaws.{word_of_octets}
use Rattle.exi_bits.proofs.words.word_at.Goals as goal

pub returns : goal.returns
returns c =
    let eight : c.args.first + 8 - c.args.first ≡ 8 = omega arith in
    rw (c.from_be_bytes.ensures, c.copy_from_slice.ensures.after, eight)
    (word_of_octets c.args.bytes.now c.args.first c.requires.within (λ i. omega (arith, c.type_inv.bytes i)))
