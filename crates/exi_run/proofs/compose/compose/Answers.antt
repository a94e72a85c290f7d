use Rattle.exi_run.specs.Tasks.{gathered}
use Rattle.exi_run.specs.Wishes.{wish_of}
use Rattle.exi_run.proofs.compose.compose.Goals as goal

pub returns : goal.returns
returns c = c.compose_by.ensures (wish_of (gathered c.args.writing.now.given)) c.args.schema c.in_ok-head.ensures.written c.in_ok-book.ensures
