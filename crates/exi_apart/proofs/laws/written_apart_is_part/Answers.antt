use Rattle.exi_apart.proofs.Named.{named_behind_start}
use Rattle.exi_apart.proofs.Parts.{apart_begins, apart_enters, apart_is_part, apart_puts}
use Rattle.exi_apart.proofs.laws.written_apart_is_part.Goals as goal

pub returns : goal.returns
returns c = record { begins = apart_begins; puts = apart_puts; entered = apart_enters; named = named_behind_start; part = apart_is_part c.written_is_read.ensures.one }
