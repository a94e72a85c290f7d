use Rattle.std.proofs.Common.{refl, rules}
use Rattle.exi_reader.proofs.CodeParts.{built_in_fails, built_in_picks}
use Rattle.exi_reader.proofs.stepper.Stepper.built_in_production.Goals as goal

pub returns : goal.returns
returns g c = record {
  picks = (
    rw (← c.self.view_is) (built_in_picks c.self.inside.book.now c.self.inside.overlay c.args.room _ _ _ _ _ (rw c.options-options.ensures.options at c.in-Ok.ensures.read) refl refl c.in-Ok.ensures.bytes),
    search rules,
  );
}

pub returns-in-Err : goal.returns-in-Err
returns-in-Err g c = record {
  picks = (
    rw (← c.self.view_is) (built_in_fails c.self.inside.book.now c.self.inside.overlay c.args.room _ _ (rw c.options-options.ensures.options at c.in-Err.ensures.read.0)),
    search rules,
  );
}
