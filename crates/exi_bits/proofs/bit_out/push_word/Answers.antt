use Rattle.std.proofs.Common.{◌≡◌, ◌+◌, ◌-◌, ◌*◌, ◌/◌, ◌%◌, ◌^◌, ◌++◌, ◌∙◌, List, ℕ, ap, length, refl, arith}
use Rattle.exi_bits.specs.Bits.{bits, number_bits}
use Rattle.exi_bits.proofs.BitLaws.{left_none}
use Rattle.exi_bits.proofs.OutWords.{extended, head_fits, word_stays}
use Rattle.exi_bits.proofs.bit_out.push_word.Goals as goal

pub returns-then-width-eq0-clause-bits : goal.returns-then-width-eq0-clause-bits
returns-then-width-eq0-clause-bits c =
    left_none (bits c.args.bytes.now.items) (bits c.args.bytes.now.items ++ number_bits c.args.width c.args.value) c.args.width c.args.value c.if-width-eq0.true refl

pub returns-clause-bits : goal.returns-clause-bits
returns-clause-bits c =
    let f = head_fits c.args.width c.args.value c.requires.narrow c.requires.fits in
    let head : c.args.value * 2 ^ (64 - c.args.width) % 2 ^ 64 ≡ c.args.value * 2 ^ (64 - c.args.width) = omega arith in
    let eight : length c.to_be_bytes.result ≡ 8 = ap length c.to_be_bytes.ensures in
    let ok = c.extend_from_slice.ensures.succeeds (omega (arith, c.requires.room)) in
    let items = extended c.extend_from_slice.result c.extend_from_slice.new.self.items c.args.bytes.now.items c.to_be_bytes.result ok c.extend_from_slice.ensures.items in
    word_stays c.truncate.new.self.items c.extend_from_slice.new.self.items c.args.bytes.now.items c.args.width c.args.value ((c.args.width + 7) / 8) (c.len.result + (c.args.width + 7) / 8) (c.args.value * 2 ^ (64 - c.args.width) % 2 ^ 64)
    c.requires.narrow c.requires.fits refl (omega (arith, c.len.ensures)) head (items ∙ ap (λ (t : List ℕ). c.args.bytes.now.items ++ t) c.to_be_bytes.ensures) c.truncate.ensures.items
