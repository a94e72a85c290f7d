use Rattle.xsd_file.specs.Bases.{chosen}
use Rattle.xsd_file.proofs.Made.{made_by}
use Rattle.xsd_file.proofs.basis.book_by.Goals as goal

pub returns : goal.returns
returns c = made_by c.book.result c.in_ok-schema.schema (chosen c.args.known c.args.options.schema) c.args.options c.book.ensures.options c.book.ensures.schema c.book.ensures.states c.in_ok-schema.ensures
