use Rattle.exi_gram.specs.Books.{state_at}
use Rattle.exi_gram.specs.Switches.{align_of}
use Rattle.exi_gram.proofs.Chosen.{place_chosen}
use Rattle.exi_gram.proofs.Tabled.{book_closed}
use Rattle.exi_gram.proofs.book.read_code.Goals as goal

pub returns-clause-read : goal.returns-clause-read
returns-clause-read c =
    rw (place_chosen (state_at c.args.book.now c.args.grammar c.args.state) (book_closed c.args.book.now c.args.grammar c.args.state c.find_in.ensures.book) (align_of c.args.book.now.options) c.args.input.now)
    c.find_in.ensures.read
