-- Which names and strings are refused, and by which fault: what stands before is spelled, and the next thing is refused, by
-- its kind and at its first bit (EXI 1.0, sections 7.1.6, 7.1.7, 7.1.9, 7.1.10 and 7.3). No reading of the whole has a part in
-- it: it is told of Unsigned Integers, numbers, characters and charges, and of how they follow one another.
use Rattle.std.specs.Prelude.{◌≡◌, ◌<◌, ◌≤◌, ◌^◌, ◌⊎◌, ℕ, ◌+◌, ◌-◌, ◌==◌, Bool, true, false, List, [], ◌∷◌, ◌++◌, length, Option, Some, None, Err}
use Rattle.exi_bits.specs.declared.align.Align.{Align}
use Rattle.exi_bits.specs.declared.fault.Fault.{Fault}
use Rattle.exi_bits.specs.declared.fault.Kind.{Kind}
use Rattle.exi_bits.specs.declared.fault.Kind.TheVariants as kind
use Rattle.exi_bits.specs.Bits.{IsAligned, IsBytes, Spot, left, moved, number, rest, taken}
use Rattle.exi_bits.specs.Unsigned.{IsCut, IsWide}
use Rattle.exi_bits.specs.Widths.{width_for}
use Rattle.exi_items.specs.Spellings.{SpellsUnsigned}
use Rattle.exi_meter.specs.Metering.{Metering, text_fits, with_text}
use Rattle.exi_names.specs.Characters.{is_xml_char}
use Rattle.exi_names.specs.declared.names.NameId.{NameId}
use Rattle.exi_tables.specs.Partitions.{Partitions, live_at, locals, prefixes, uris, values}
use Rattle.exi_text.specs.Spelled.{SpellsChars}
use Rattle.exi_typed.specs.Charging.{Charge, IsTaken, one_charge}
use Rattle.exi_typed.specs.Items.{Tabled, item_at, qualified, string}
use Rattle.exi_typed.specs.Laws.{Spelling}
use Rattle.exi_typed.specs.ReadStates.{Context, ContextReader, Failure}
use Rattle.exi_typed.specs.Spelled.{ChargesOnly, SpellsLocal, SpellsNewPrefix, SpellsUri}
use Rattle.exi_typed.specs.Strings.{Partition, declaration_at, known_at, listed, literal_at, name_at, no_growth, own_values, place_in}

-- under a meter and tables, at a spot: the fault, and the meter with all that was charged before
abbrev pub Refusing : Type 1
Refusing = Context → Spot → Failure → Type 0

abbrev pub wrong : Kind → ℕ → Metering → Failure
wrong k bit m = record { fault = record { kind = k; bit = bit }; meter = m }

-- the fault is this one where reading fails, and there alone
pub record IsRefusal {X : Type 0} (a : Align) (read : ContextReader X) (Refuses : Refusing) : Type 0 where
  pub fails : (w : Context) (s : Spot) (e : Failure) → IsBytes s.bytes → IsAligned a s → read (record { spot = s; context = w }) ≡ Err e → Refuses w s e
  pub again : (w : Context) (s : Spot) (e : Failure) → IsBytes s.bytes → IsAligned a s → Refuses w s e → read (record { spot = s; context = w }) ≡ Err e

-- ---- bits
-- the bits end before an Unsigned Integer does, or it is too wide
abbrev pub IsUnsignedRefused : Spot → Kind → Type 0
IsUnsignedRefused s k = ((k ≡ kind.Short) × IsCut (rest s)) ⊎ ((k ≡ kind.TooWide) × IsWide (rest s))

-- a number that is not below the count
pub record IsNumberOver (count : ℕ) (a : Align) (s : Spot) : Type 0 where
  pub value : ℕ
  pub narrow : value < 2 ^ taken (width_for count) a
  pub more : List Bool
  pub stands : rest s ≡ number (width_for count) a value ++ more
  pub over : count ≤ value

-- the bits end before the number does, or it is not below the count, which is of this kind
abbrev pub IsNumberRefused : ℕ → Align → Kind → Spot → Kind → Type 0
IsNumberRefused count a bad s k = ((k ≡ kind.Short) × (left s < taken (width_for count) a)) ⊎ ((k ≡ bad) × IsNumberOver count a s)

-- a number below the count
abbrev pub SpellsBelow : ℕ → Align → ℕ → List Bool → Type 0
SpellsBelow count a v text = (v < count) × (text ≡ number (width_for count) a v)

-- a code point that is no XML character
pub record IsNoChar (s : Spot) : Type 0 where
  pub code : ℕ
  pub text : List Bool
  pub more : List Bool
  pub spelled : SpellsUnsigned code text
  pub stands : rest s ≡ text ++ more
  pub none : is_xml_char code ≡ false

abbrev pub IsCharRefused : Spot → Kind → Type 0
IsCharRefused s k = IsUnsignedRefused s k ⊎ ((k ≡ kind.BadChar) × IsNoChar s)

-- of so many characters some are spelled, and the next is refused
pub record IsOneCharRefused (count : ℕ) (a : Align) (s : Spot) (f : Fault) : Type 0 where
  pub before : List ℕ
  pub text : List Bool
  pub more : List Bool
  pub few : length before < count
  pub spelled : SpellsChars None a before text
  pub stands : rest s ≡ text ++ more
  pub kind : Kind
  pub refused : IsCharRefused (moved s (length text)) kind
  pub is : f ≡ record { kind = kind; bit = s.place + length text }

-- ---- put together
-- the bits in front are refused
pub record IsFrontRefused (Bits : Spot → Kind → Type 0) (w : Context) (s : Spot) (e : Failure) : Type 0 where
  pub kind : Kind
  pub refused : Bits s kind
  pub is : e ≡ wrong kind s.place w.meter

-- they are spelled, and what stands behind them is refused
pub record IsBehindRefused {X : Type 0} (First : X → List Bool → Type 0) (Second : X → Refusing) (w : Context) (s : Spot) (e : Failure) : Type 0 where
  pub value : X
  pub text : List Bool
  pub more : List Bool
  pub stands : rest s ≡ text ++ more
  pub spelled : First value text
  pub refused : Second value w (moved s (length text)) e

abbrev pub RefusesBehind : {X : Type 0} → (Spot → Kind → Type 0) → (X → List Bool → Type 0) → (X → Refusing) → Refusing
RefusesBehind Bits First Second w s e = IsFrontRefused Bits w s e ⊎ IsBehindRefused First Second w s e

-- the first is spelled and charged, and what stands behind it is refused
pub record IsNextRefused {X : Type 0} (First : Spelling X) (Second : X → Refusing) (w : Context) (s : Spot) (e : Failure) : Type 0 where
  pub item : X
  pub between : Context
  pub charges : List Charge
  pub text : List Bool
  pub more : List Bool
  pub stands : rest s ≡ text ++ more
  pub spelled : First item w.tables between.tables charges text
  pub taken : IsTaken charges w.meter between.meter
  pub refused : Second item between (moved s (length text)) e

abbrev pub RefusesNext : {X : Type 0} → Refusing → Spelling X → (X → Refusing) → Refusing
RefusesNext One First Second w s e = One w s e ⊎ IsNextRefused First Second w s e

-- one of two, as a test tells
abbrev pub RefusesBy : Bool → Refusing → Refusing → Refusing
RefusesBy true One Other = One
RefusesBy false One Other = Other

-- so many units pass the limit, here
pub record IsOverText (units : ℕ) (w : Context) (s : Spot) (e : Failure) : Type 0 where
  pub over : text_fits w.meter units ≡ false
  pub is : e ≡ wrong kind.TextLimit s.place w.meter

-- ---- one text
-- the text that a place tells passes the limit behind the place; or the place tells none, which its first bit has
abbrev pub RefusesPlaced : Spot → Option (List ℕ) → Refusing
RefusesPlaced t (Some x) w s e = IsOverText (length x) w s e
RefusesPlaced t None w s e = e ≡ wrong kind.BadPlace t.place w.meter

abbrev pub RefusesHit : Align → Partition → Refusing
RefusesHit a partition w s e = RefusesBehind (IsNumberRefused partition.count a kind.BadPlace) (SpellsBelow partition.count a) (λ v. RefusesPlaced s (partition.text_at v)) w s e

-- so many units pass the limit before the first character; or some of so many characters are spelled, and the next is refused
pub record IsTextRefused (count : ℕ) (a : Align) (w : Context) (s : Spot) (e : Failure) : Type 0 where
  pub fits : text_fits w.meter count ≡ true
  pub fault : Fault
  pub refused : IsOneCharRefused count a s fault
  pub is : e ≡ record { fault = fault; meter = with_text w.meter count }

abbrev pub RefusesMissed : Align → ℕ → Refusing
RefusesMissed a count w s e = IsOverText count w s e ⊎ IsTextRefused count a w s e

abbrev pub RefusesLiteral : Align → Refusing
RefusesLiteral a w s e = RefusesBehind IsUnsignedRefused SpellsUnsigned (λ count. RefusesMissed a count) w s e

abbrev pub RefusesIndexed : Align → List (List ℕ) → Refusing
RefusesIndexed a texts w s e =
    RefusesBehind (IsNumberRefused (length texts + 1) a kind.BadPlace) (SpellsBelow (length texts + 1) a) (λ code. RefusesBy (code == 0) (RefusesLiteral a) (RefusesPlaced s (live_at texts (code - 1)))) w s e

-- ---- names
abbrev pub RefusesUri : Align → Refusing
RefusesUri a w s e = RefusesIndexed a (uris w.tables) w s e

abbrev pub RefusesLocal : Align → ℕ → Refusing
RefusesLocal a uri w s e =
    RefusesBehind IsUnsignedRefused SpellsUnsigned (λ code. RefusesBy (code == 0) (λ v. RefusesHit a (listed (locals v.tables uri)) v) (RefusesMissed a (code - 1))) w s e

abbrev pub RefusesPrefixIn : Align → List (List ℕ) → Refusing
RefusesPrefixIn a [] w s e = ⊥
RefusesPrefixIn a (x ∷ xs) w s e = RefusesHit a (listed (x ∷ xs)) w s e

abbrev pub RefusesPrefix : Bool → Align → ℕ → Refusing
RefusesPrefix true a uri w s e = RefusesPrefixIn a (prefixes w.tables uri) w s e
RefusesPrefix false a uri w s e = ⊥

abbrev pub RefusesNameUnder : Bool → Align → ℕ → Refusing
RefusesNameUnder keep a uri w s e = RefusesNext (RefusesLocal a uri) (SpellsLocal a uri) (λ local. RefusesPrefix keep a uri) w s e

abbrev pub RefusesName : Bool → Align → Refusing
RefusesName keep a w s e = RefusesNext (RefusesUri a) (SpellsUri a) (λ space v. RefusesNameUnder keep a (place_in (uris v.tables) space) v) w s e

-- a text that stands at this place is charged, and has no bits
pub record SpellsPlaced (o : Option (List ℕ)) (x : List ℕ) (p q : Partitions) (ks : List Charge) (text : List Bool) : Type 0 where
  pub stands : o ≡ Some x
  pub charged : ChargesOnly (one_charge (length x) 0) p q ks text

-- the texts of a name that the event code tells, and its prefix
abbrev pub RefusesKnown : Bool → Align → NameId → Refusing
RefusesKnown keep a id w s e =
    RefusesNext (λ v t. RefusesPlaced s (live_at (uris v.tables) id.uri) v t) (λ x p. SpellsPlaced (live_at (uris p) id.uri) x p)
    (λ uri. RefusesNext (λ v t. RefusesPlaced s (live_at (locals v.tables id.uri) id.local) v t) (λ x p. SpellsPlaced (live_at (locals p id.uri) id.local) x p) (λ local. RefusesPrefix keep a id.uri)) w s e

-- so many units are taken, and what stands behind them is refused
pub record IsTakenRefused (units : ℕ) (Second : Refusing) (w : Context) (s : Spot) (e : Failure) : Type 0 where
  pub fits : text_fits w.meter units ≡ true
  pub refused : Second (record { meter = with_text w.meter units; tables = w.tables }) s e

-- the unit of the value passes the limit, or the name behind it is refused
abbrev pub RefusesNameValue : Bool → Align → Refusing
RefusesNameValue keep a w s e = IsOverText 1 w s e ⊎ IsTakenRefused 1 (RefusesName keep a) w s e

abbrev pub RefusesNewPrefix : Align → List ℕ → Refusing
RefusesNewPrefix a uri w s e = RefusesIndexed a (prefixes w.tables (place_in (uris w.tables) uri)) w s e

abbrev pub RefusesDeclaration : Align → Refusing
RefusesDeclaration a w s e =
    RefusesNext (RefusesUri a) (SpellsUri a) (λ uri. RefusesNext (RefusesNewPrefix a uri) (SpellsNewPrefix a uri) (λ prefix. IsFrontRefused (IsNumberRefused 2 a kind.BadPlace))) w s e

-- ---- values
abbrev pub RefusesValue : Align → NameId → Refusing
RefusesValue a name w s e =
    RefusesBehind IsUnsignedRefused SpellsUnsigned
    (λ code. RefusesBy (code == 0) (λ v. RefusesHit a (own_values v.tables name) v) (RefusesBy (code == 1) (λ v. RefusesHit a (listed (values v.tables)) v) (RefusesMissed a (code - 2)))) w s e

abbrev pub RefusesItem : Tabled → Align → NameId → Refusing
RefusesItem string a name w s e = RefusesValue a name w s e
RefusesItem (qualified keep) a name w s e = RefusesNameValue keep a w s e

-- ---- the laws
pub record ReadingsAreRefused : Type 0 where
  pub literals : (a : Align) → IsRefusal a (literal_at a no_growth) (RefusesLiteral a)
  pub names : (keep : Bool) (a : Align) → IsRefusal a (name_at keep a) (RefusesName keep a)
  pub known : (keep : Bool) (a : Align) (id : NameId) → IsRefusal a (known_at keep a id) (RefusesKnown keep a id)
  pub declarations : (a : Align) → IsRefusal a (declaration_at a) (RefusesDeclaration a)
  pub items : (kind : Tabled) (a : Align) (name : NameId) → IsRefusal a (item_at kind a name) (RefusesItem kind a name)
