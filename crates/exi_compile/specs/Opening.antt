-- The grammars that elements open, by a list of their places.
use Rattle.std.specs.Prelude.{ℕ, Option, Some, None, List, map, get_or}
use Rattle.exi_gram.specs.Terminals.{Rule, Rules}

-- an element that is not on the list opens another
abbrev pub opened_inner : List ℕ → ℕ → Option ℕ → Option ℕ
opened_inner grammars otherwise None = None
opened_inner grammars otherwise (Some element) = Some (get_or grammars element otherwise)

abbrev pub opened_rule : List ℕ → ℕ → Rule → Rule
opened_rule grammars otherwise r = record { on = r.on; to = r.to; inner = opened_inner grammars otherwise r.inner }

abbrev pub opened_by : List ℕ → ℕ → Rules → Rules
opened_by grammars otherwise g = record { states = map (map (opened_rule grammars otherwise)) g.states; content = g.content }
