use Rattle.std.proofs.Common.{List, ℕ, Option, sym, subst, ◌∙◌}
use Rattle.exi_names.specs.Seen.{Value, seen}
use Rattle.exi_evtext.specs.Parsing.{Gives}
use Rattle.exi_evtext.proofs.Cursors.{value_text}
use Rattle.exi_evtext.proofs.cursor.Cursor.value.Goals as goal

pub returns : goal.returns
returns c =
    subst (λ (o : Option (Value × List ℕ)). Gives seen c.opened_value.result o c.opened_value.new.self) (sym (value_text c.args.self.now c.in-Some.inside.now (sym c.self.view_is ∙ c.in-Some.ensures))) c.opened_value.ensures
