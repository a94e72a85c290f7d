-- Marks for some of the states of a grammar.
use Rattle.std.specs.Prelude.{◌≡◌, ℕ, ◌<◌, Bool, false, List, length, get_or}
use Rattle.exi_gram.specs.Additions.{attribute_states}
use Rattle.exi_gram.specs.Reaching.{is_among}
use Rattle.exi_gram.specs.Terminals.{Rules}

-- those of a list have one
pub record Marks (places : List ℕ) (marks : List Bool) : Type 0 where
  pub marked : (i : ℕ) → i < length marks → get_or marks i false ≡ is_among i places

-- each state has a mark where attributes alone lead to it from the start
pub record MarksAttributes (g : Rules) (marks : List Bool) : Type 0 where
  pub count : length marks ≡ length g.states
  pub reached : Marks (attribute_states g) marks
