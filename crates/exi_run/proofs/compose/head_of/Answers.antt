use Rattle.exi_run.specs.Tasks.{gathered}
use Rattle.exi_run.specs.Wishes.{wish_of}
use Rattle.exi_run.proofs.Writes.{head_whole_of}
use Rattle.exi_run.proofs.compose.head_of.Goals as goal

pub returns-clause-whole : goal.returns-clause-whole
returns-clause-whole c = head_whole_of c.write_header.result (wish_of (gathered c.args.writing.now.given)) (rw c.in_ok-options.ensures at c.write_header.ensures)
