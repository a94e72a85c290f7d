use Rattle.std.proofs.Common.{ap, refl, ◌∙◌}
use Rattle.exi_bits.specs.Bits.{Spot}
use Rattle.exi_bits.proofs.Groups.{at_start, more_octets, no_octet, one_octet}
use Rattle.exi_bits.proofs.bit_in.BitIn.unsigned.Goals as goal

pub returns-in_default-clause-read : goal.returns-in_default-clause-read
returns-in_default-clause-read c = (rw c.at-bit.ensures.place (no_octet c.args.self.now c.in_default.ensures.read.0), c.in_default.ensures.read.1)

pub returns-then-first-lt128-clause-read : goal.returns-then-first-lt128-clause-read
returns-then-first-lt128-clause-read c =
    rw c.from.ensures (one_octet c.in-Some.first c.args.self.now c.octet.new.self c.in-Some.ensures.read c.if-first-lt128.true)

pub returns-in-Ok-clause-read : goal.returns-in-Ok-clause-read
returns-in-Ok-clause-read c =
    more_octets c.in-Some.first c.args.self.now c.octet.new.self c.in-Some.ensures.read c.if-first-lt128.false ∙ rw c.in-Ok.ensures.read refl

pub returns-in-Err-clause-read : goal.returns-in-Err-clause-read
returns-in-Err-clause-read c = (
  more_octets c.in-Some.first c.args.self.now c.octet.new.self c.in-Some.ensures.read c.if-first-lt128.false ∙ rw (c.in-Err.ensures.read, c.at-bit.ensures.place) refl,
  rw (c.go_to_bit.ensures, c.at-bit.ensures.place, c.in-Err.ensures.bytes) (at_start c.args.self.now c.octet.new.self (ap (λ (s : Spot). s.bytes) c.in-Some.ensures.place)),
)
