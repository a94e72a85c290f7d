use Rattle.std.proofs.Common.{◌≡◌, ◌*◌, ◌≤◌, ◌<◌, arith, refl, ◌∙◌}
use Rattle.exi_bits.specs.Bits.{left}
use Rattle.exi_bits.proofs.OctetLaws.{octets_read, octets_short}
use Rattle.exi_bits.proofs.bit_in.BitIn.octets.Goals as goal

pub returns-then-count-from-clause-read : goal.returns-then-count-from-clause-read
returns-then-count-from-clause-read c =
    let short : left c.args.self.now < 8 * c.args.count = omega (arith, c.if-count-from.true, c.from.ensures, c.left-held.ensures) in
    octets_short c.args.count c.args.self.now short ∙ rw (c.left-held.ensures, ← c.self.view_is) refl

pub returns-clause-read : goal.returns-clause-read
returns-clause-read c =
    let long : 8 * c.args.count ≤ left c.args.self.now = omega (arith, c.if-count-from.false, c.from.ensures, c.left-held.ensures) in
    let e : 8 * c.args.count ≡ c.args.count * 8 = omega arith in
    octets_read c.args.count c.args.self.now long ∙ rw (← c.self.view_is, c.in_ok-octets.ensures.ok, e) refl
