use Rattle.std.proofs.Common.{subst}
use Rattle.exi_gram.specs.Books.{IsBook}
use Rattle.exi_gram.proofs.Plain.{plain_book}
use Rattle.exi_gram.proofs.book.Book.schema.Goals as goal

pub returns-clause-plain : goal.returns-clause-plain
returns-clause-plain c plain = plain_book c.args.self.now (subst IsBook c.self.view_is c.self.invariant.0) plain
