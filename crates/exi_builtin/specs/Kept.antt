-- What is kept beside the productions, so that no list has to be walked.
use Rattle.std.specs.Prelude.{◌≡◌, ℕ, ◌<◌, ◌≤◌, ◌^◌, Option, List, [], get_or, length, position}
use Rattle.exi_names.specs.declared.names.NameId.{NameId}
use Rattle.exi_builtin.specs.declared.element_grammar.ElementGrammar.{ElementGrammar}
use Rattle.exi_names.specs.NameMaps.{kept_for, same_name}

-- the numbers kept are the places of the names' grammars, and there are not too many
pub record IsNumbered (grammars : List ElementGrammar) (rows : List (List (Option ℕ))) : Type 0 where
  pub numbers : (name : NameId) → kept_for rows name ≡ position (λ (g : ElementGrammar). same_name g.name name) grammars
  pub few : length grammars ≤ 2 ^ 31

-- a grammar that learned nothing, whatever its name
abbrev pub IsBlank : ElementGrammar → Type 0
IsBlank g = (g.start_tag ≡ []) × (g.content ≡ [])

-- so many are in use, and those behind them learned nothing
pub record AreSpares (used : ℕ) (grammars : List ElementGrammar) : Type 0 where
  pub within : used ≤ length grammars
  pub blank : (place : ℕ) (default : ElementGrammar) → used ≤ place → place < length grammars → IsBlank (get_or grammars place default)
