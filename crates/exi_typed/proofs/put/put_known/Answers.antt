use Rattle.std.proofs.Common.{rules, ◌≡◌, ◌++◌, ◌+◌, Bool, List, OnOk, subst}
use Rattle.exi_bits.specs.Bits.{bits, number_bits}
use Rattle.exi_bits.specs.Unsigned.{shortest}
use Rattle.exi_bits.specs.Widths.{width_for}
use Rattle.exi_bits.specs.declared.align.Align.TheVariants as align
use Rattle.exi_typed.proofs.Writes.{behind_zero, fits, wider}
use Rattle.exi_typed.proofs.put.put_known.Goals as goal

pub put-requires-clause-fits : goal.put-requires-clause-fits
put-requires-clause-fits c = rw c.bits_for-width.ensures.width (wider (width_for c.args.count) c.args.place (fits c.args.count c.args.place c.requires.within))

pub returns-then-width-le56-clause-ok : goal.returns-then-width-le56-clause-ok
returns-then-width-le56-clause-ok c =
    let told : number_bits (c.bits_for-width.result + 8) c.args.place ≡ bits (shortest 0) ++ number_bits (width_for c.args.count) c.args.place
    = rw c.bits_for-width.ensures.width (behind_zero (width_for c.args.count) c.args.place (fits c.args.count c.args.place c.requires.within)) in
    let bitwise : c.args.align ≡ align.Bits = search rules in
    rw bitwise (subst (λ (z : List Bool). OnOk c.put.result (c.put.new.self ≡ c.args.out.now ++ z)) told c.put.ensures.ok)
