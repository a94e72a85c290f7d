-- What datatypes are, without where they lie in memory (EXI 1.0, section 7).
use Rattle.std.specs.Prelude.{ℕ, ℤ, Bool, List}
use Rattle.exi_names.specs.Seen.{Value, vals}
use Rattle.exi_names.specs.declared.moment.MomentKind.{MomentKind}
use Rattle.exi_names.specs.declared.datatype.Datatype.{Datatype, fold-Datatype}
use Rattle.exi_names.specs.declared.datatype.Datatype.TheOpen.{Datatype-F}

-- how values of a datatype are represented
pub data Representation : Type 0 where
  -- the least value, and how many there are
  small : ℤ → ℕ → Representation
  unsigned : Representation
  integer : Representation
  -- whether the datatype has a pattern
  boolean : Bool → Representation
  -- whether in hexadecimal
  binary : Bool → Representation
  decimal : Representation
  float : Representation
  moment : MomentKind → Representation
  list : Representation → Representation
  -- the base, and the enumerated values
  choice : Representation → List Value → Representation
  text : Representation
  -- the characters that stand by their place
  chars : List ℕ → Representation
  -- whether prefixes are kept
  name : Bool → Representation

-- one level, with each datatype inside already seen
abbrev pub represented_step : Datatype-F Representation → Representation
represented_step (Datatype-F.Small least count) = small least count
represented_step Datatype-F.Unsigned = unsigned
represented_step Datatype-F.Integer = integer
represented_step (Datatype-F.Boolean pattern) = boolean pattern
represented_step (Datatype-F.Binary hex) = binary hex
represented_step Datatype-F.Decimal = decimal
represented_step Datatype-F.Float = float
represented_step (Datatype-F.Moment kind) = moment kind
represented_step (Datatype-F.List item) = list item.value
represented_step (Datatype-F.Choice base values) = choice base.value (vals values)
represented_step Datatype-F.Text = text
represented_step (Datatype-F.Chars alphabet) = chars alphabet
represented_step (Datatype-F.Name prefixes) = name prefixes

-- the representation that a `Datatype` is
abbrev pub represented : Datatype → Representation
represented = fold-Datatype Representation represented_step
