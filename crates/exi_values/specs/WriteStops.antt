-- What the string tables hold where memory runs out in the midst of writing a value.
use Rattle.std.specs.Prelude.{◌≡◌, ◌⊎◌, ◌≤◌, ℕ, ◌+◌, ◌^◌, List, ◌∷◌, ◌++◌}
use Rattle.exi_names.specs.Datatypes.{Representation}
use Rattle.exi_names.specs.Datatypes as datatype
use Rattle.exi_names.specs.Seen.{Value, Values, values_of}
use Rattle.exi_names.specs.Seen as value
use Rattle.exi_names.specs.declared.names.NameId.{NameId}
use Rattle.exi_tables.specs.Growth.{NoneLonger}
use Rattle.exi_tables.specs.Partitions.{Partitions}
use Rattle.exi_typed.specs.ReadStates.{MayHaveUri}
use Rattle.exi_values.specs.Written.{after_row, after_valued, items_among, items_in}

-- some of a list's items were written, and what stopped in the next left this
pub record WroteAmong (after : Partitions → Value → Partitions) (Next : Value → Partitions → Partitions → Type 0) (v : Value) (p new : Partitions) : Type 0 where
  pub before : List Value
  pub next : Value
  pub more : List Value
  pub parts : v ≡ value.items (values_of (before ++ next ∷ more))
  pub left : Next next (after_row after p (values_of before)) new

-- The tables are as they were, or have the URI of a name; of a list they may have what the items before added too.
abbrev pub LeavesWritten : Representation → NameId → Value → Partitions → Partitions → Type 0
LeavesWritten (datatype.list item) name v p new = (new ≡ p) ⊎ WroteAmong (after_valued item name) (LeavesWritten item name) v p new
LeavesWritten (datatype.small least count) name v p new = MayHaveUri p new
LeavesWritten datatype.unsigned name v p new = MayHaveUri p new
LeavesWritten datatype.integer name v p new = MayHaveUri p new
LeavesWritten (datatype.boolean pattern) name v p new = MayHaveUri p new
LeavesWritten (datatype.binary hex) name v p new = MayHaveUri p new
LeavesWritten datatype.decimal name v p new = MayHaveUri p new
LeavesWritten datatype.float name v p new = MayHaveUri p new
LeavesWritten (datatype.moment kind) name v p new = MayHaveUri p new
LeavesWritten (datatype.choice base values) name v p new = MayHaveUri p new
LeavesWritten datatype.text name v p new = MayHaveUri p new
LeavesWritten (datatype.chars set) name v p new = MayHaveUri p new
LeavesWritten (datatype.name keep) name v p new = MayHaveUri p new

-- there is room in each list of the tables for one text of each item, up to 2^31
pub record HasPlaces (items : ℕ) (p : Partitions) : Type 0 where
  pub most : ℕ
  pub few : NoneLonger most p
  pub fits : most + items ≤ 2 ^ 31

abbrev pub HasRoomFor : Representation → Value → Partitions → Type 0
HasRoomFor r v p = HasPlaces (items_in r v) p

abbrev pub HaveRoomFor : Representation → Values → Partitions → Type 0
HaveRoomFor item vs p = HasPlaces (items_among (items_in item) vs) p
