use Rattle.exi_bits.proofs.Groups.{one_octet}
use Rattle.exi_bits.proofs.bit_in.BitIn.one_octet.Goals as goal

pub returns-then-first-lt128-clause-unsigned : goal.returns-then-first-lt128-clause-unsigned
returns-then-first-lt128-clause-unsigned c = one_octet c.in-Some.first c.args.self.now c.octet.new.self c.in-Some.ensures.read c.if-first-lt128.true
