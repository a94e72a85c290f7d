use Rattle.std.proofs.Common.{option_copied}
use Rattle.exi_text.proofs.Sets.{no_chars_at}
use Rattle.exi_text.proofs.read.charged_chars.Goals as goal

pub returns-then-count-eq0-clause-read : goal.returns-then-count-eq0-clause-read
returns-then-count-eq0-clause-read c =
    rw c.requires.empty (no_chars_at (option_copied c.args.set) c.args.align c.args.count c.args.input.now c.args.meter.now c.charge_text.new.meter c.if-count-eq0.true (rw c.at.ensures.place at c.in_ok-charge_text.ensures.charge))
