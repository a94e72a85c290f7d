-- Grammars that are not yet normal (EXI 1.0, section 8.5.4.1), without where they lie in memory.
use Rattle.std.specs.Prelude.{ℕ, ◌<◌, ◌≤◌, Bool, true, false, Option, Some, None, List, All, length, map}
use Rattle.exi_gram.specs.Terminals.{StepRule, Symbol, step_rule, sd, ed, se, se_in, se_any, at, at_in, at_any, at_text, at_any_text, xsi_type, xsi_nil, ch, ch_text, ee, ns, sc, er, cm, pi, dt}
use Rattle.exi_gram.specs.declared.grammar.Proto.{Proto}

-- the states of a grammar, each with its steps; the first is the start
abbrev pub States : Type 0
States = List (List StepRule)

-- a grammar: its states, and the place of the state in which the content begins
pub record Draft : Type 0 where
  pub states : States
  pub content : ℕ

-- the grammar that a `Proto` is
abbrev pub draft_of : Proto → Draft
draft_of p = record { states = map (map step_rule) p.states; content = p.content }

-- ---- the end of an element
abbrev pub is_end : Symbol → Bool
is_end ee = true
is_end sd = false
is_end ed = false
is_end (se name) = false
is_end (se_in uri) = false
is_end se_any = false
is_end (at name representation) = false
is_end (at_in uri) = false
is_end at_any = false
is_end (at_text name) = false
is_end at_any_text = false
is_end xsi_type = false
is_end xsi_nil = false
is_end (ch representation) = false
is_end ch_text = false
is_end ns = false
is_end sc = false
is_end er = false
is_end cm = false
is_end pi = false
is_end dt = false

abbrev pub ends : Option Symbol → Bool
ends None = false
ends (Some on) = is_end on

-- ---- what holds of every such grammar: it has a state, and each step and the content lead to one of its states
pub record LeadsInside (d : Draft) : Type 0 where
  pub some : 1 ≤ length d.states
  pub steps : All (λ state. All (λ s. s.to < length d.states) state) d.states
  pub content : d.content < length d.states
