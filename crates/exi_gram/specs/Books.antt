-- A book: what is read and written by, for one schema and the options of one stream.
use Rattle.std.specs.Prelude.{◌≡◌, ℕ, ◌<◌, Bool, false, List, [], ◌∷◌, length, map, get_or}
use Rattle.exi_names.specs.StartTables.{Names}
use Rattle.exi_gram.specs.declared.options.Options.{Options}
use Rattle.exi_gram.specs.Additions.{made_states}
use Rattle.exi_gram.specs.Codes.{Productions, mapped, pruned}
use Rattle.exi_gram.specs.Laws.{codes}
use Rattle.exi_gram.specs.Naming.{Entry, entry_of}
use Rattle.exi_gram.specs.Outlines.{Outline}
use Rattle.exi_gram.specs.Switches.{conflicts, strict}
use Rattle.exi_gram.specs.Tables.{no_productions}
use Rattle.exi_gram.specs.Terminals.{Rule, is_left}
use Rattle.exi_gram.specs.Wholes.{document}

pub record Contents : Type 0 where
  pub options : Options
  pub schema : Outline
  -- of each grammar and state the productions, by the parts of their codes
  pub states : List (List (Productions Entry))

-- what the options leave of a state
abbrev pub is_kept : Options → Entry → Bool
is_kept o e = is_left o e.rule.on

abbrev pub left_of : Options → Productions Entry → Productions Entry
left_of o p = pruned (is_kept o) p

-- a state with the places of its names, and as a book has it: what the options leave of that
abbrev pub placed_in : Names → Productions Rule → Productions Entry
placed_in names p = mapped (entry_of names) p

abbrev pub state_of : Options → Names → Productions Rule → Productions Entry
state_of o names p = left_of o (placed_in names p)

-- the states of all grammars of a schema under the options (EXI 1.0, sections 8.3, 8.4.1 and 8.5.4)
abbrev pub book_states : Options → Outline → List (List (Productions Entry))
book_states o s = map (map (state_of o s.names)) (made_states (strict o) s)

-- the codes of the states, for which the compiled tables stand
abbrev pub tables_of : List (List (Productions Entry)) → List (List (List (List ℕ)))
tables_of states = map (map codes) states

-- what holds of every book
pub record IsBook (b : Contents) : Type 0 where
  pub no_conflict : conflicts b.options ≡ false
  pub states : b.states ≡ book_states b.options b.schema

-- of a book without a schema: it has the Document grammar alone
pub record IsPlainBook (b : Contents) : Type 0 where
  pub no_conflict : conflicts b.options ≡ false
  pub states : b.states ≡ map (state_of b.options b.schema.names) (document []) ∷ []

-- the states of a grammar, and a state's productions
abbrev pub states_in : Contents → ℕ → List (Productions Entry)
states_in b grammar = get_or b.states grammar []

abbrev pub state_at : Contents → ℕ → ℕ → Productions Entry
state_at b grammar state = get_or (states_in b grammar) state no_productions

-- there is such a state
pub record IsStateOf (b : Contents) (grammar state : ℕ) : Type 0 where
  pub grammar_is : grammar < length b.states
  pub state_is : state < length (states_in b grammar)
