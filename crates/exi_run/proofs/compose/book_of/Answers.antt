use Rattle.std.proofs.Common.{refl}
use Rattle.exi_run.specs.Tasks.{gathered}
use Rattle.exi_run.specs.Wishes.{wish_of}
use Rattle.exi_run.proofs.Writes.{book_made}
use Rattle.exi_run.proofs.compose.book_of.Goals as goal

pub returns : goal.returns
returns c = book_made c.book_by.result (wish_of (gathered c.args.writing.now.given)) c.args.schema c.options.result refl c.options.ensures c.book_by.ensures
