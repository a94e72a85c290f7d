-- Which values are refused, and by which fault: what stands before is spelled and charged, and the next thing is refused, or its
-- charge passes the limit of text. Of the bits of one value that goes through no table their own reading tells.
use Rattle.std.specs.Prelude.{◌≡◌, ◌⊎◌, ℕ, zero, suc, Bool, true, false, List, Some, Ok, Err}
use Rattle.exi_bits.specs.declared.align.Align.{Align}
use Rattle.exi_bits.specs.declared.fault.Fault.{Fault}
use Rattle.exi_bits.specs.declared.fault.Kind.TheVariants as kind
use Rattle.exi_bits.specs.Bits.{Spot}
use Rattle.exi_bits.specs.Repeat.{Reader, octets_at}
use Rattle.exi_bits.specs.Unsigned.{unsigned_at}
use Rattle.exi_meter.specs.Metering.{text_fits, with_text}
use Rattle.exi_names.specs.Datatypes.{Representation}
use Rattle.exi_names.specs.Datatypes as datatype
use Rattle.exi_names.specs.Seen.{Value}
use Rattle.exi_names.specs.declared.names.NameId.{NameId}
use Rattle.exi_scalar.specs.Scalars.{boolean_at, decimal_at, float_at}
use Rattle.exi_typed.specs.Items.{qualified, string}
use Rattle.exi_typed.specs.Laws.{Spelling}
use Rattle.exi_typed.specs.ReadStates.{Context, Failure}
use Rattle.exi_typed.specs.Refused.{IsOverText, IsRefusal, IsTakenRefused, Refusing, RefusesItem, RefusesNext, wrong}
use Rattle.exi_typed.specs.Strings.{value_at}
use Rattle.exi_values.specs.Readings.{count_at, dated_at, enumerated_at, natural_at, small_at, units_in, whole_at}
use Rattle.exi_values.specs.Spelled.{SpellsCount, SpellsValued}
use Rattle.exi_values.specs.Valued.{is_measured, valued_at}

-- ---- bits alone
-- the bits are refused by their own reading, at the item that is so
pub record AreRefused {X : Type 0} (read : Reader X) (w : Context) (s : Spot) (e : Failure) : Type 0 where
  pub fault : Fault
  pub refused : read s ≡ Err fault
  pub is : e ≡ record { fault = fault; meter = w.meter }

-- one unit passes the limit before the first bit, or the bits are refused
abbrev pub RefusesCharged : Reader Value → Refusing
RefusesCharged read w s e = IsOverText 1 w s e ⊎ IsTakenRefused 1 (AreRefused read) w s e

-- ---- enumerations
-- the length of a text or of octets passes the limit behind the place
pub record IsMeasuredOver (vs : List Value) (a : Align) (w : Context) (s : Spot) (e : Failure) : Type 0 where
  pub value : Value
  pub next : Spot
  pub found : enumerated_at vs a s ≡ Ok (value, next)
  pub over : text_fits w.meter (units_in value) ≡ false
  pub is : e ≡ wrong kind.TextLimit next.place w.meter

abbrev pub RefusesChoice : Bool → List Value → Align → Refusing
RefusesChoice true vs a w s e = AreRefused (enumerated_at vs a) w s e ⊎ IsMeasuredOver vs a w s e
RefusesChoice false vs a w s e = RefusesCharged (enumerated_at vs a) w s e

-- ---- numbers of octets and of items
-- the number passes the limit, at its first bit
pub record IsCountOver (one : Reader ℕ) (w : Context) (s : Spot) (e : Failure) : Type 0 where
  pub count : ℕ
  pub next : Spot
  pub found : one s ≡ Ok (count, next)
  pub over : text_fits w.meter count ≡ false
  pub is : e ≡ wrong kind.TextLimit s.place w.meter

-- the number is taken, and of so many octets one is refused
pub record AreOctetsRefused (w : Context) (s : Spot) (e : Failure) : Type 0 where
  pub count : ℕ
  pub next : Spot
  pub found : unsigned_at s ≡ Ok (count, next)
  pub fits : text_fits w.meter count ≡ true
  pub fault : Fault
  pub refused : octets_at count next ≡ Err fault
  pub is : e ≡ record { fault = fault; meter = with_text w.meter count }

abbrev pub RefusesOctets : Refusing
RefusesOctets w s e = AreRefused unsigned_at w s e ⊎ IsCountOver unsigned_at w s e ⊎ AreOctetsRefused w s e

-- ---- lists
abbrev pub RefusesCount : Refusing
RefusesCount w s e = AreRefused count_at w s e ⊎ IsCountOver count_at w s e

-- of so many values some are spelled and charged, and the next is refused
abbrev pub RefusesEach : {X : Type 0} → Refusing → Spelling X → ℕ → Refusing
RefusesEach One First zero w s e = ⊥
RefusesEach One First (suc n) w s e = RefusesNext One First (λ x. RefusesEach One First n) w s e

abbrev pub RefusesList : Refusing → Spelling Value → Refusing
RefusesList One First w s e = RefusesNext RefusesCount SpellsCount (λ n. RefusesEach One First n) w s e

-- ---- strings with a set of characters
abbrev pub RefusesInSet : List ℕ → Align → NameId → Refusing
RefusesInSet set a name w s e = value_at (Some set) a name (record { spot = s; context = w }) ≡ Err e

-- ---- every datatype
abbrev pub RefusesValued : Representation → Align → NameId → Refusing
RefusesValued (datatype.small least count) a name w s e = RefusesCharged (small_at least count a) w s e
RefusesValued datatype.unsigned a name w s e = RefusesCharged natural_at w s e
RefusesValued datatype.integer a name w s e = RefusesCharged (whole_at a) w s e
RefusesValued (datatype.boolean pattern) a name w s e = RefusesCharged (boolean_at pattern a) w s e
RefusesValued (datatype.binary hex) a name w s e = RefusesOctets w s e
RefusesValued datatype.decimal a name w s e = RefusesCharged (decimal_at a) w s e
RefusesValued datatype.float a name w s e = RefusesCharged (float_at a) w s e
RefusesValued (datatype.moment kind) a name w s e = RefusesCharged (dated_at kind a) w s e
RefusesValued (datatype.list item) a name w s e = RefusesList (RefusesValued item a name) (SpellsValued item a name) w s e
RefusesValued (datatype.choice base values) a name w s e = RefusesChoice (is_measured base) values a w s e
RefusesValued datatype.text a name w s e = RefusesItem string a name w s e
RefusesValued (datatype.chars set) a name w s e = RefusesInSet set a name w s e
RefusesValued (datatype.name keep) a name w s e = RefusesItem (qualified keep) a name w s e

-- where reading fails a value is refused so, and where it is refused so reading fails
abbrev pub ValuesAreRefused : Type 0
ValuesAreRefused = (r : Representation) (a : Align) (name : NameId) → IsRefusal a (valued_at r a name) (RefusesValued r a name)
