-- How much there is after so many turns: what a reader needs to count in 32 bits.
use Rattle.std.specs.Prelude.{ℕ, ◌+◌, ◌*◌, ◌^◌, ◌≤◌, List, length, Option, All}
use Rattle.exi_builtin.specs.declared.element_grammar.ElementGrammar.{ElementGrammar}
use Rattle.exi_builtin.specs.Learning.{Learning}
use Rattle.exi_meter.specs.Metering.{Bounds}
use Rattle.exi_names.specs.Events.{Happening}
use Rattle.exi_names.specs.StartTables.{IsStart}
use Rattle.exi_tables.specs.Growth.{NoneLonger}
use Rattle.exi_processing.specs.Configurations.{Body, Config}
use Rattle.exi_processing.specs.Runs.{Job, Leads, first}
use Rattle.exi_processing.specs.declared.start.Start.{Start}

-- a grammar has learned no more than so many productions in a state
pub record FewLearned (most : ℕ) (g : ElementGrammar) : Type 0 where
  pub start_tag : length g.start_tag ≤ most
  pub content : length g.content ≤ most

-- and there are no more than so many grammars
pub record FewGrammars (most : ℕ) (l : Learning) : Type 0 where
  pub grammars : length l.grammars ≤ most
  pub each : All (FewLearned most) l.grammars
  pub fragment : length l.fragment ≤ most

-- after so many turns and units of text: each turn has added two texts at most to a list, and each item of a list of values one
-- more, which was charged
pub record FewAside (turns units : ℕ) (b : Body) : Type 0 where
  pub tables : NoneLonger (2 ^ 30 + 2 * turns + units) b.tables
  pub learned : FewGrammars turns b.learned

pub record Few (turns : ℕ) (c : Config) : Type 0 where
  pub tables : NoneLonger (2 ^ 30 + 2 * turns + c.meter.used.text) c.tables
  pub learned : FewGrammars turns c.learned
  pub aside : All (FewAside turns c.meter.used.text) c.aside

abbrev pub FewAfterTurns : Type 0
FewAfterTurns = (j : Job) (start : Start) (limits : Bounds) (turns : List (Option Happening)) (c : Config) → IsStart j.setting.schema.names → Leads j.setting j.bytes (first j start limits) turns c → Few (length turns) c
