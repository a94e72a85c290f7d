use Rattle.std.proofs.Common.{Option, sym, subst, ◌∙◌}
use Rattle.exi_names.specs.Events.{Happening}
use Rattle.exi_evtext.specs.Parsing.{Tells}
use Rattle.exi_evtext.proofs.Cursors.{integer_said}
use Rattle.exi_evtext.proofs.cursor.Cursor.characters_into.Goals as goal

pub returns : goal.returns
returns c =
    subst (λ (o : Option Happening). Tells (λ _. c.integer_into.new.room) c.integer_into.result o) (sym (integer_said c.args.self.now c.in-Some.inside.now (sym c.self.view_is ∙ c.in-Some.ensures))) c.integer_into.ensures
