-- What productions read, without where it lies in memory (EXI 1.0, sections 8.4 and 8.5).
use Rattle.std.specs.Prelude.{ℕ, List, Option, Some, None, Bool, true, map}
use Rattle.exi_names.specs.Datatypes.{Representation, represented}
use Rattle.exi_names.specs.declared.names.QName.{QName}
use Rattle.exi_gram.specs.declared.options.Options.{Options}
use Rattle.exi_gram.specs.declared.terminal.Terminal.{Terminal}
use Rattle.exi_gram.specs.declared.terminal.Terminal.TheVariants as terminal
use Rattle.exi_gram.specs.declared.grammar.Grammar.{Grammar}
use Rattle.exi_gram.specs.declared.grammar.Production.{Production}
use Rattle.exi_gram.specs.declared.grammar.Step.{Step}
use Rattle.exi_gram.specs.Switches.{comments, dtd, prefixes, processing_instructions, self_contained}

-- a terminal
pub data Symbol : Type 0 where
  sd : Symbol
  ed : Symbol
  -- an element of a name, of any name of a URI, and of any name
  se : QName → Symbol
  se_in : List ℕ → Symbol
  se_any : Symbol
  -- an attribute of a name with a typed value, of any name of a URI, and of any name
  at : QName → Representation → Symbol
  at_in : List ℕ → Symbol
  at_any : Symbol
  -- an attribute whose value is untyped
  at_text : QName → Symbol
  at_any_text : Symbol
  xsi_type : Symbol
  xsi_nil : Symbol
  -- characters, typed and untyped
  ch : Representation → Symbol
  ch_text : Symbol
  ee : Symbol
  ns : Symbol
  sc : Symbol
  er : Symbol
  cm : Symbol
  pi : Symbol
  dt : Symbol

-- the terminal that a `Terminal` is
abbrev pub symbol : Terminal → Symbol
symbol terminal.Sd = sd
symbol terminal.Ed = ed
symbol (terminal.Se name) = se name
symbol (terminal.SeIn uri) = se_in uri
symbol terminal.SeAny = se_any
symbol (terminal.At name datatype) = at name (represented datatype)
symbol (terminal.AtIn uri) = at_in uri
symbol terminal.AtAny = at_any
symbol (terminal.AtText name) = at_text name
symbol terminal.AtAnyText = at_any_text
symbol terminal.XsiType = xsi_type
symbol terminal.XsiNil = xsi_nil
symbol (terminal.Ch datatype) = ch (represented datatype)
symbol terminal.ChText = ch_text
symbol terminal.Ee = ee
symbol terminal.Ns = ns
symbol terminal.Sc = sc
symbol terminal.Er = er
symbol terminal.Cm = cm
symbol terminal.Pi = pi
symbol terminal.Dt = dt

-- a production: its terminal, the state that follows, and the grammar of an element that it opens
pub record Rule : Type 0 where
  pub on : Symbol
  pub to : ℕ
  pub inner : Option ℕ

-- the production that a `Production` is
abbrev pub rule : Production → Rule
rule p = record { on = symbol p.on; to = p.to; inner = p.inner }

-- a grammar: the productions of its states, and the state in which the element's content begins
pub record Rules : Type 0 where
  pub states : List (List Rule)
  pub content : ℕ

-- the grammar that a `Grammar` is
abbrev pub rules_of : Grammar → Rules
rules_of g = record { states = map (map rule) g.states; content = g.content }

-- what a step reads, if anything
abbrev pub step_symbol : Option Terminal → Option Symbol
step_symbol None = None
step_symbol (Some on) = Some (symbol on)

-- a step of a grammar that is not yet in normal form (section 8.5.4.1), and the place of its particle
pub record StepRule : Type 0 where
  pub on : Option Symbol
  pub to : ℕ
  pub inner : Option ℕ
  pub particle : Option ℕ

-- the step that a `Step` is
abbrev pub step_rule : Step → StepRule
step_rule s = record { on = step_symbol s.on; to = s.to; inner = s.inner; particle = s.particle }

-- what the options leave (section 8.3): CM by comments, PI by pis, DT and ER by dtd, NS by prefixes, SC by selfContained
abbrev pub is_left : Options → Symbol → Bool
is_left o sd = true
is_left o ed = true
is_left o (se name) = true
is_left o (se_in uri) = true
is_left o se_any = true
is_left o (at name representation) = true
is_left o (at_in uri) = true
is_left o at_any = true
is_left o (at_text name) = true
is_left o at_any_text = true
is_left o xsi_type = true
is_left o xsi_nil = true
is_left o (ch representation) = true
is_left o ch_text = true
is_left o ee = true
is_left o ns = prefixes o
is_left o sc = self_contained o
is_left o er = dtd o
is_left o cm = comments o
is_left o pi = processing_instructions o
is_left o dt = dtd o
