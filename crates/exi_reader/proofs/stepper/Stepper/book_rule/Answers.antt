use Rattle.std.proofs.Common.{rules}
use Rattle.exi_reader.proofs.CodeParts.{book_fails, book_picks}
use Rattle.exi_reader.proofs.stepper.Stepper.book_rule.Goals as goal

pub returns : goal.returns
returns g c = record {
  picks = (
    rw (← c.self.view_is) (book_picks c.self.inside.book.now c.args.grammar c.args.state _ _ c.in-Ok.place c.coded.result.now c.index-coded-place.result _ c.in-Ok.ensures.read (rw c.state.ensures at c.coded.ensures.codes) (rw (c.coded.ensures.count, c.state.ensures) c.in-Ok.ensures.below) c.index-coded-place.is c.of_book.ensures c.in-Ok.ensures.bytes),
    search rules,
  );
}

pub returns-in-Err : goal.returns-in-Err
returns-in-Err g c = record {
  picks = (
    rw (← c.self.view_is) (book_fails c.self.inside.book.now c.args.grammar c.args.state _ _ c.in-Err.ensures.read.0),
    search rules,
  );
}
