-- Which bits spell a value under every datatype (EXI 1.0, section 7.1), how the string tables are grown, and what is charged:
-- the tables before and after, and the charges, whose bits count from the first bit of the spelling.
use Rattle.std.specs.Prelude.{◌≡◌, ◌≤◌, ℕ, Bool, true, false, IsTrue, List, [], ◌∷◌, length, Some, ℤ}
use Rattle.exi_bits.specs.declared.align.Align.{Align}
use Rattle.exi_items.specs.Spellings.{Made, SpellsUnsigned}
use Rattle.exi_moment.specs.Spelling.{Spells}
use Rattle.exi_names.specs.Datatypes.{Representation}
use Rattle.exi_names.specs.Datatypes as datatype
use Rattle.exi_names.specs.Moments.{IsMoment, is_year}
use Rattle.exi_names.specs.Seen.{Value, values_of}
use Rattle.exi_names.specs.Seen as value
use Rattle.exi_names.specs.declared.moment.Moment.{Moment}
use Rattle.exi_names.specs.declared.moment.MomentKind.{MomentKind}
use Rattle.exi_names.specs.declared.names.NameId.{NameId}
use Rattle.exi_names.specs.declared.val.TheConstants.{MOST_ITEMS}
use Rattle.exi_scalar.specs.Spelled.{SpellsBinary, SpellsBoolean, SpellsDecimal, SpellsFloat, SpellsInteger}
use Rattle.exi_tables.specs.Partitions.{Partitions}
use Rattle.exi_typed.specs.Charging.{Charge, one_charge}
use Rattle.exi_typed.specs.Items.{SpellsItem, qualified, string}
use Rattle.exi_typed.specs.Laws.{Spelling}
use Rattle.exi_typed.specs.Refused.{SpellsBelow}
use Rattle.exi_typed.specs.Spelled.{Follows, IsNothing, OneSpelling, SpellsValue}
use Rattle.exi_values.specs.Readings.{enumerated, from_least, natural, units_in}
use Rattle.exi_values.specs.Valued.{is_measured}

-- ---- values of bits alone
-- an integer of a bounded range, by its place in it
abbrev pub SpellsSmall : ℤ → ℕ → Align → Value → List Bool → Type 0
SpellsSmall least count a v text = Made (from_least least) (SpellsBelow count a) v text

abbrev pub SpellsNatural : Value → List Bool → Type 0
SpellsNatural v text = Made natural SpellsUnsigned v text

abbrev pub SpellsWhole : Align → Value → List Bool → Type 0
SpellsWhole a v text = Made value.integer (SpellsInteger a) v text

-- a date or a time of this kind, each field in its range
pub record SpellsMoment (k : MomentKind) (a : Align) (m : Moment) (text : List Bool) : Type 0 where
  pub kind_is : m.kind ≡ k
  pub ranges : IsMoment m
  pub year : IsTrue (is_year m.year)
  pub spelled : Spells a m text

abbrev pub SpellsDated : MomentKind → Align → Value → List Bool → Type 0
SpellsDated k a v text = Made value.moment (SpellsMoment k a) v text

-- one of these values, by a place that has it
abbrev pub SpellsEnumerated : List Value → Align → Value → List Bool → Type 0
SpellsEnumerated vs a v text = Made (enumerated vs) (SpellsBelow (length vs) a) v text

-- one unit is charged before the first bit
pub record SpellsCharged (Bits : Value → List Bool → Type 0) (v : Value) (p q : Partitions) (ks : List Charge) (text : List Bool) : Type 0 where
  pub spelled : Bits v text
  pub charges : ks ≡ one_charge 1 0
  pub after : q ≡ p

-- ---- octets
-- their number is charged at its first bit
pub record SpellsOctets (hex : Bool) (v : Value) (p q : Partitions) (ks : List Charge) (text : List Bool) : Type 0 where
  pub octets : List ℕ
  pub is : v ≡ value.binary hex octets
  pub spelled : SpellsBinary hex v text
  pub charges : ks ≡ one_charge (length octets) 0
  pub after : q ≡ p

-- ---- enumerations
-- a text or octets, charged behind the place
pub record SpellsMeasured (vs : List Value) (a : Align) (v : Value) (p q : Partitions) (ks : List Charge) (text : List Bool) : Type 0 where
  pub spelled : SpellsEnumerated vs a v text
  pub charges : ks ≡ one_charge (units_in v) (length text)
  pub after : q ≡ p

abbrev pub SpellsChoice : Bool → List Value → Align → Value → OneSpelling
SpellsChoice true vs a v p q ks text = SpellsMeasured vs a v p q ks text
SpellsChoice false vs a v p q ks text = SpellsCharged (SpellsEnumerated vs a) v p q ks text

-- ---- lists
-- the number of items, charged at its first bit
pub record SpellsCount (n : ℕ) (p q : Partitions) (ks : List Charge) (text : List Bool) : Type 0 where
  pub few : n ≤ MOST_ITEMS
  pub spelled : SpellsUnsigned n text
  pub charges : ks ≡ one_charge n 0
  pub after : q ≡ p

-- one behind the other, each under the tables that the one before left
abbrev pub SpellsEach : {X : Type 0} → Spelling X → Spelling (List X)
SpellsEach Item [] p q ks text = IsNothing p q ks text
SpellsEach Item (x ∷ xs) p q ks text = Follows (Item x) (SpellsEach Item xs) p q ks text

pub record SpellsList (Item : Spelling Value) (v : Value) (p q : Partitions) (ks : List Charge) (text : List Bool) : Type 0 where
  pub list : List Value
  pub is : v ≡ value.items (values_of list)
  pub spelled : Follows (SpellsCount (length list)) (SpellsEach Item list) p q ks text

-- ---- strings
-- with a set of characters
pub record SpellsInSet (set : List ℕ) (a : Align) (name : NameId) (v : Value) (p q : Partitions) (ks : List Charge) (text : List Bool) : Type 0 where
  pub string : List ℕ
  pub is : v ≡ value.text string
  pub spelled : SpellsValue (Some set) a name string p q ks text

-- ---- every datatype
abbrev pub SpellsValued : Representation → Align → NameId → Spelling Value
SpellsValued (datatype.small least count) a name v p q ks text = SpellsCharged (SpellsSmall least count a) v p q ks text
SpellsValued datatype.unsigned a name v p q ks text = SpellsCharged SpellsNatural v p q ks text
SpellsValued datatype.integer a name v p q ks text = SpellsCharged (SpellsWhole a) v p q ks text
SpellsValued (datatype.boolean pattern) a name v p q ks text = SpellsCharged (SpellsBoolean pattern a) v p q ks text
SpellsValued (datatype.binary hex) a name v p q ks text = SpellsOctets hex v p q ks text
SpellsValued datatype.decimal a name v p q ks text = SpellsCharged (SpellsDecimal a) v p q ks text
SpellsValued datatype.float a name v p q ks text = SpellsCharged (SpellsFloat a) v p q ks text
SpellsValued (datatype.moment kind) a name v p q ks text = SpellsCharged (SpellsDated kind a) v p q ks text
SpellsValued (datatype.list item) a name v p q ks text = SpellsList (SpellsValued item a name) v p q ks text
SpellsValued (datatype.choice base values) a name v p q ks text = SpellsChoice (is_measured base) values a v p q ks text
SpellsValued datatype.text a name v p q ks text = SpellsItem string a name v p q ks text
SpellsValued (datatype.chars set) a name v p q ks text = SpellsInSet set a name v p q ks text
SpellsValued (datatype.name keep) a name v p q ks text = SpellsItem (qualified keep) a name v p q ks text
