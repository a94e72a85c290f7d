use Rattle.std.proofs.Common.{sym}
use Rattle.exi_tables.proofs.SomeText.{has_some}
use Rattle.exi_tables.proofs.live.has_some.Goals as goal

pub returns : goal.returns
returns c = rw c.is_empty.ensures (sym (has_some c.args.text.now c.as_str.result.now c.as_str.ensures.chars c.as_str.ensures.bytes))
