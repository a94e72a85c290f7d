use Rattle.exi_run.proofs.Backs.{written_read}
use Rattle.exi_run.proofs.laws.written_is_read.Goals as goal

pub returns : goal.returns
returns c = written_read c.written_is_read.ensures.list c.written_is_same.ensures.list c.written_is_same_text.ensures.list c.without_schema_is_schema.ensures c.written_is_read-2.ensures c.cookie_is_asked.ensures
