use Rattle.std.proofs.Common.{◌≡◌, ◌≤◌, ◌+◌, ◌-◌, arith}
use Rattle.exi_bits.proofs.BitLaws.{le_value_below_at}
use Rattle.exi_bits.proofs.WordLaws.{low_word, one_byte_at}
use Rattle.exi_bits.proofs.words.bytes_at.Goals as goal

pub returns-clause-below : goal.returns-clause-below
returns-clause-below c =
    let e : c.args.first + c.args.count - c.args.first ≡ c.args.count = omega arith in
    rw (c.gathered_back.ensures, e) (le_value_below_at c.args.count c.args.first c.args.bytes.now (λ i. omega (arith, c.type_inv.bytes i)))

pub returns-then-first-bytes-clause-value : goal.returns-then-first-bytes-clause-value
returns-then-first-bytes-clause-value c =
    let some : 1 ≤ c.args.count = omega (arith, c.if-count-gt1.true) in
    rw c.word_back_at.ensures (low_word c.args.bytes.now c.args.first c.args.count some c.requires.narrow c.if-first-bytes.true (λ i. omega (arith, c.type_inv.bytes i)))

pub returns-then-first-bytes-clause-below : goal.returns-then-first-bytes-clause-below
returns-then-first-bytes-clause-below c =
    let some : 1 ≤ c.args.count = omega (arith, c.if-count-gt1.true) in
    rw (c.word_back_at.ensures, low_word c.args.bytes.now c.args.first c.args.count some c.requires.narrow c.if-first-bytes.true (λ i. omega (arith, c.type_inv.bytes i)))
    (le_value_below_at c.args.count c.args.first c.args.bytes.now (λ i. omega (arith, c.type_inv.bytes i)))

pub returns-then-count-eq1-clause-value : goal.returns-then-count-eq1-clause-value
returns-then-count-eq1-clause-value c = rw (c.from.ensures, c.if-count-eq1.true) (one_byte_at c.args.bytes.now c.args.first (omega (arith, c.requires.within)))

pub returns-then-count-eq1-clause-below : goal.returns-then-count-eq1-clause-below
returns-then-count-eq1-clause-below c = rw (c.from.ensures, c.if-count-eq1.true) (omega (arith, c.type_inv.bytes c.args.first))
