-- What values are, without where they lie in memory (EXI 1.0, section 7).
use Rattle.std.specs.Prelude.{ℕ, ℤ, List, [], ◌∷◌, Bool, map}
use Rattle.exi_names.specs.Wholes.{Number}
use Rattle.exi_names.specs.declared.moment.Moment.{Moment}
use Rattle.exi_names.specs.declared.names.QName.{QName}
use Rattle.exi_names.specs.declared.val.ValList.{ValList}
use Rattle.exi_names.specs.declared.val.Val.{Val, fold-Val}
use Rattle.exi_names.specs.declared.val.Val.TheOpen.{Val-F, ValList-F}

mutual
  -- a value
  pub data Value : Type 0 where
    -- its characters
    text : List ℕ → Value
    -- its truth, and whether a digit spells it
    boolean : Bool → Bool → Value
    integer : Number → Value
    -- whether it is negative, its whole part, and the digits of its fraction reversed
    decimal : Bool → ℕ → ℕ → Value
    -- mantissa and exponent of ten
    float : ℤ → ℤ → Value
    moment : Moment → Value
    -- whether it is spelled in hexadecimal, and its octets
    binary : Bool → List ℕ → Value
    items : Values → Value
    name : QName → Value

  -- a list of values
  pub data Values : Type 0 where
    no_more : Values
    and : Value → Values → Values

abbrev pub values_of : List Value → Values
values_of [] = no_more
values_of (v ∷ vs) = and v (values_of vs)

-- one level, with each value inside already seen
abbrev pub seen_step : Val-F Value Values → Value
seen_step (Val-F.Text t) = text t
seen_step (Val-F.Bool truth digit) = boolean truth digit
seen_step (Val-F.Int whole) = integer whole
seen_step (Val-F.Dec minus whole back) = decimal minus whole back
seen_step (Val-F.Flo mantissa exponent) = float mantissa exponent
seen_step (Val-F.Mom m) = moment m
seen_step (Val-F.Bin hex octets) = binary hex octets
seen_step (Val-F.Items list) = items list
seen_step (Val-F.Name n) = name n

abbrev pub list_step : ValList-F Value Values → Values
list_step list = values_of list.items.items

-- the value that a `Val` is
abbrev pub seen : Val → Value
seen = fold-Val Value Values seen_step list_step

-- the list of values that a `ValList` is
abbrev pub vals : ValList → List Value
vals list = map seen list.items.items
