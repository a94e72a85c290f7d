-- What the string tables hold where the reading of a value stops, and the room that it takes there.
use Rattle.std.specs.Prelude.{◌≡◌, ◌≤◌, ◌⊎◌, ℕ, ◌+◌, ◌-◌, ◌^◌, List, Result, Ok, Err}
use Rattle.exi_bits.specs.declared.align.Align.{Align}
use Rattle.exi_bits.specs.declared.fault.Stop.{Stop}
use Rattle.exi_meter.specs.Metering.{Metering}
use Rattle.exi_names.specs.Datatypes.{Representation}
use Rattle.exi_names.specs.Datatypes as datatype
use Rattle.exi_names.specs.Seen.{Value}
use Rattle.exi_names.specs.declared.names.NameId.{NameId}
use Rattle.exi_names.specs.declared.val.Val.{Val}
use Rattle.exi_tables.specs.Growth.{NoneLonger}
use Rattle.exi_tables.specs.Partitions.{Partitions}
use Rattle.exi_typed.specs.ReadStates.{ContextReader, Leaves, ReadState}
use Rattle.exi_values.specs.Readings.{charged_count_at, each_at}
use Rattle.exi_values.specs.Valued.{valued_at}

-- some of a list's items were read, and what stopped in the next left this
pub record LeftAmong (item : ContextReader Value) (Next : ReadState → Partitions → Type 0) (c : ReadState) (new : Partitions) : Type 0 where
  pub count : ℕ
  pub begun : ReadState
  pub counted : charged_count_at c ≡ Ok (count, begun)
  pub done : ℕ
  pub within : done ≤ count
  pub before : List Value
  pub at : ReadState
  pub read : each_at item done begun ≡ Ok (before, at)
  pub left : Next at new

-- The tables are as they were; of a list they may have what the items before added, and where memory ran out they may have
-- the URI of a name too.
abbrev pub LeavesAfter : Representation → Align → NameId → Result Val Stop → ReadState → Partitions → Type 0
LeavesAfter (datatype.list item) a name (Ok v) c new = Unit {0}
LeavesAfter (datatype.list item) a name (Err stop) c new = (new ≡ c.context.tables) ⊎ LeftAmong (valued_at item a name) (LeavesAfter item a name (Err stop)) c new
LeavesAfter (datatype.small least count) a name result c new = Leaves result c.context.tables new
LeavesAfter datatype.unsigned a name result c new = Leaves result c.context.tables new
LeavesAfter datatype.integer a name result c new = Leaves result c.context.tables new
LeavesAfter (datatype.boolean pattern) a name result c new = Leaves result c.context.tables new
LeavesAfter (datatype.binary hex) a name result c new = Leaves result c.context.tables new
LeavesAfter datatype.decimal a name result c new = Leaves result c.context.tables new
LeavesAfter datatype.float a name result c new = Leaves result c.context.tables new
LeavesAfter (datatype.moment kind) a name result c new = Leaves result c.context.tables new
LeavesAfter (datatype.choice base values) a name result c new = Leaves result c.context.tables new
LeavesAfter datatype.text a name result c new = Leaves result c.context.tables new
LeavesAfter (datatype.chars set) a name result c new = Leaves result c.context.tables new
LeavesAfter (datatype.name keep) a name result c new = Leaves result c.context.tables new

-- each item of a list adds one text to a list of the tables at most, and is charged: so what the meter still takes has room
abbrev pub IsRoomy : Metering → Partitions → Type 0
IsRoomy m p = NoneLonger (2 ^ 31 - 2 ^ 28 + m.used.text) p

-- asked of lists alone
abbrev pub HasRoom : Representation → Metering → Partitions → Type 0
HasRoom (datatype.list item) m p = IsRoomy m p
HasRoom (datatype.small least count) m p = Unit {0}
HasRoom datatype.unsigned m p = Unit {0}
HasRoom datatype.integer m p = Unit {0}
HasRoom (datatype.boolean pattern) m p = Unit {0}
HasRoom (datatype.binary hex) m p = Unit {0}
HasRoom datatype.decimal m p = Unit {0}
HasRoom datatype.float m p = Unit {0}
HasRoom (datatype.moment kind) m p = Unit {0}
HasRoom (datatype.choice base values) m p = Unit {0}
HasRoom datatype.text m p = Unit {0}
HasRoom (datatype.chars set) m p = Unit {0}
HasRoom (datatype.name keep) m p = Unit {0}
