-- How much the string tables grow by what is read.
use Rattle.std.specs.Prelude.{◌≡◌, ◌≤◌, ℕ, ◌+◌, Ok}
use Rattle.exi_bits.specs.declared.align.Align.{Align}
use Rattle.exi_names.specs.Datatypes.{Representation, list}
use Rattle.exi_names.specs.Seen.{Value}
use Rattle.exi_names.specs.declared.names.NameId.{NameId}
use Rattle.exi_tables.specs.Growth.{NoneLonger}
use Rattle.exi_typed.specs.ReadStates.{ContextReader, ReadState}
use Rattle.exi_values.specs.Valued.{valued_at}

abbrev pub used : ReadState → ℕ
used c = c.context.meter.used.text

-- each list of the tables grows by what was charged and so much more at most
pub record GrowsBy (more : ℕ) (c d : ReadState) : Type 0 where
  pub charged : used c ≤ used d
  pub few : (most new : ℕ) → most + more + used d ≤ new + used c → NoneLonger most c.context.tables → NoneLonger new d.context.tables

abbrev pub Grows : {X : Type 0} → ℕ → ContextReader X → Type 0
Grows {X} more read = (x : X) (c d : ReadState) → read c ≡ Ok (x, d) → GrowsBy more c d

-- a list by no more than was charged, and any value by one text more at most
pub record GrowthIsCharged : Type 0 where
  pub lists : (item : Representation) (a : Align) (name : NameId) → Grows {X = Value} 0 (valued_at (list item) a name)
  pub values : (r : Representation) (a : Align) (name : NameId) → Grows {X = Value} 1 (valued_at r a name)
