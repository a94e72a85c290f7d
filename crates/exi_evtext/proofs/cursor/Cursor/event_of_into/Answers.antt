use Rattle.std.proofs.Common.{Option, sym, subst, ◌∙◌}
use Rattle.exi_names.specs.Events.{Happening}
use Rattle.exi_evtext.specs.Parsing.{Tells}
use Rattle.exi_evtext.proofs.Cursors.{characters_said}
use Rattle.exi_evtext.proofs.cursor.Cursor.event_of_into.Goals as goal

pub returns-then-is_pair : goal.returns-then-is_pair
returns-then-is_pair c =
    subst (λ (o : Option Happening). Tells (λ _. c.characters_into.new.room) c.characters_into.result o) (sym (characters_said c.args.word.now c.args.self.now (sym c.is_pair.ensures ∙ c.if-is_pair.true))) c.characters_into.ensures
