use Rattle.std.proofs.Common.{rules}
use Rattle.exi_evtext.proofs.Refills.{text_seen, value_opened}
use Rattle.exi_evtext.proofs.room.reopen.Goals as goal

pub returns : goal.returns
returns c = value_opened c.refill.result c.args.bytes.now c.refill.new.text _ (search (rules, text_seen)) c.refill.ensures
