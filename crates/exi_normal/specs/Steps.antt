-- The steps of a grammar by the numbers of their terminals: a terminal's number is its place among all of the grammar.
use Rattle.std.specs.Prelude.{◌≡◌, ℕ, ◌<◌, Bool, false, Option, Some, None, List, [], ◌∷◌, ◌++◌, length, map, slice_get, get_or, if◌then◌else◌}
use Rattle.std.specs.List.{list_any, position_or_len}
use Rattle.exi_draft.specs.Drafts.{States, draft_of}
use Rattle.exi_gram.specs.Terminals.{StepRule, Symbol, sd, symbol}
use Rattle.exi_normal.specs.Normals.{Met, same_symbol}
use Rattle.exi_normal.specs.declared.key.Key.{Key}
use Rattle.exi_normal.specs.declared.numbered.Move.{Move}
use Rattle.exi_normal.specs.declared.numbered.Numbered.{Numbered}
use Rattle.exi_normal.specs.declared.numbered.Terminals.{Terminals}
use Rattle.exi_normal.specs.declared.walk.Reading.{Reading}

-- ---- terminals
abbrev pub key_symbol : Key → Symbol
key_symbol k = symbol k.terminal.now

abbrev pub symbols : Terminals → List Symbol
symbols t = map key_symbol t.keys.keys

abbrev pub symbol_at : List Symbol → ℕ → Symbol
symbol_at ss number = get_or ss number sd

abbrev pub symbol_number : Symbol → List Symbol → ℕ
symbol_number s ss = position_or_len (same_symbol s) ss

abbrev pub with_symbol : Symbol → List Symbol → List Symbol
with_symbol s ss = if list_any (same_symbol s) ss then ss else ss ++ s ∷ []

-- each differs from those behind it
abbrev pub AreApart : List Symbol → Type 0
AreApart [] = Unit {0}
AreApart (s ∷ ss) = (list_any (same_symbol s) ss ≡ false) × AreApart ss

-- the numbers of the old terminals stay
abbrev pub KeepsSymbols : List Symbol → List Symbol → Type 0
KeepsSymbols old new = (more : List Symbol) × (new ≡ old ++ more)

-- ---- steps
abbrev pub ShowsOn : List Symbol → Option ℕ → Option Symbol → Type 0
ShowsOn ss None None = Unit {0}
ShowsOn ss None (Some s) = ⊥
ShowsOn ss (Some number) None = ⊥
ShowsOn ss (Some number) (Some s) = slice_get ss number ≡ Some s

pub record ShowsStep (ss : List Symbol) (m : Move) (s : StepRule) : Type 0 where
  pub on : ShowsOn ss m.on s.on
  pub to : m.to ≡ s.to
  pub inner : m.inner ≡ s.inner
  pub particle : m.particle ≡ s.particle

abbrev pub ShowsState : List Symbol → List Move → List StepRule → Type 0
ShowsState ss [] [] = Unit {0}
ShowsState ss [] (s ∷ steps) = ⊥
ShowsState ss (m ∷ moves) [] = ⊥
ShowsState ss (m ∷ moves) (s ∷ steps) = ShowsStep ss m s × ShowsState ss moves steps

abbrev pub ShowsStates : List Symbol → List (List Move) → States → Type 0
ShowsStates ss [] [] = Unit {0}
ShowsStates ss [] (steps ∷ others) = ⊥
ShowsStates ss (moves ∷ states) [] = ⊥
ShowsStates ss (moves ∷ states) (steps ∷ others) = ShowsState ss moves steps × ShowsStates ss states others

-- the states of the grammar of which the numbers are
abbrev pub states_of : Numbered → States
states_of n = (draft_of n.proto.now).states

pub record IsNumbered (n : Numbered) : Type 0 where
  pub apart : AreApart (symbols n.terminals)
  pub shows : ShowsStates (symbols n.terminals) n.states.items (states_of n)
