-- What stands behind an event's code: how it is read, how it is spelled, and how it is refused (EXI 1.0, sections 4 and 7.1).
use Rattle.std.specs.Prelude.{◌≡◌, ℕ, ◌&&◌, Bool, true, false, List, Option, None, Ok, Err, if◌then◌else◌}
use Rattle.std.specs.Option.{is_none}
use Rattle.exi_bits.specs.declared.align.Align.{Align}
use Rattle.exi_bits.specs.declared.fault.Kind.TheVariants as kind
use Rattle.exi_bits.specs.Unsigned.{◌>>=◌}
use Rattle.exi_builtin.specs.Learning.{is_type}
use Rattle.exi_gram.specs.Switches.{align_of, prefixes, strict}
use Rattle.exi_names.specs.Datatypes.{Representation}
use Rattle.exi_names.specs.Datatypes as datatype
use Rattle.exi_names.specs.NameMaps.{same_name}
use Rattle.exi_names.specs.declared.names.NameId.{NameId}
use Rattle.exi_names.specs.Seen.{Value}
use Rattle.exi_names.specs.Seen as value
use Rattle.exi_tables.specs.Partitions.{Partitions, live_at, uris}
use Rattle.exi_typed.specs.Charging.{Charge}
use Rattle.exi_typed.specs.ReadStates.{ContextReader}
use Rattle.exi_typed.specs.Laws.{Spelling}
use Rattle.exi_typed.specs.Refused.{Refusing, RefusesKnown, RefusesLiteral, RefusesName, RefusesNameUnder, RefusesNext, RefusesPlaced, SpellsPlaced, wrong}
use Rattle.exi_typed.specs.Spelled.{Follows, IsNothing, SpellsKnown, SpellsLiteral, SpellsName, SpellsNameUnder}
use Rattle.exi_typed.specs.Strings.{Named, known_at, literal_at, name_at, name_under, no_growth, placed_at}
use Rattle.exi_values.specs.Refused.{RefusesValued}
use Rattle.exi_values.specs.Spelled.{SpellsValued}
use Rattle.exi_values.specs.Valued.{valued_at}
use Rattle.exi_processing.specs.Configurations.{Setting}
use Rattle.exi_gram.specs.Globals.{attribute_datatype, type_grammar}
use Rattle.exi_processing.specs.Rules.{Telling, Valuing, by_name, known, nil_name, spelled, typed, under, untyped}

-- ---- nothing
abbrev pub nothing_at : ContextReader (Unit {0})
nothing_at c = Ok (tt, c)

abbrev pub SpellsNothing : Spelling (Unit {0})
SpellsNothing x p q ks text = IsNothing p q ks text

-- it never fails
abbrev pub RefusesNothing : Refusing
RefusesNothing w s e = ⊥

-- ---- one thing, and behind it another that may depend on it
unfoldable pub both_at : {X Y : Type 0} → ContextReader X → (X → ContextReader Y) → ContextReader (X × Y)
both_at one two c = do
  x ← one c
  y ← two x.0 x.1
  Ok ((x.0, y.0), y.1)

abbrev pub SpellsBoth : {X Y : Type 0} → Spelling X → (X → Spelling Y) → Spelling (X × Y)
SpellsBoth One Two x p q ks text = Follows (One x.0) (Two x.0 x.1) p q ks text

-- ---- names
-- under a URI at a place: the URI's text is charged, and the local name and the prefix have bits (own)
unfoldable pub under_at : Bool → Align → ℕ → ContextReader Named
under_at keep a uri c = do
  text ← placed_at c.spot (live_at (uris c.context.tables) uri) c
  name_under keep a uri text.0 text.1

pub record SpellsUnder (keep : Bool) (a : Align) (uri : ℕ) (n : Named) (p q : Partitions) (ks : List Charge) (text : List Bool) : Type 0 where
  pub space : List ℕ
  pub spelled : Follows (SpellsPlaced (live_at (uris p) uri) space) (SpellsNameUnder keep a uri space n) p q ks text

abbrev pub RefusesUnder : Bool → Align → ℕ → Refusing
RefusesUnder keep a uri w s e = RefusesNext (λ v t. RefusesPlaced s (live_at (uris v.tables) uri) v t) (λ x p. SpellsPlaced (live_at (uris p) uri) x p) (λ space. RefusesNameUnder keep a uri) w s e

abbrev pub told_name_at : Setting → Telling → ContextReader Named
told_name_at g spelled c = name_at (prefixes g.options) (align_of g.options) c
told_name_at g (under uri) c = under_at (prefixes g.options) (align_of g.options) uri c
told_name_at g (known id) c = known_at (prefixes g.options) (align_of g.options) id c

abbrev pub SpellsTold : Setting → Telling → Spelling Named
SpellsTold g spelled n p q ks text = SpellsName (prefixes g.options) (align_of g.options) n p q ks text
SpellsTold g (under uri) n p q ks text = SpellsUnder (prefixes g.options) (align_of g.options) uri n p q ks text
SpellsTold g (known id) n p q ks text = SpellsKnown (prefixes g.options) (align_of g.options) id n p q ks text

abbrev pub RefusesTold : Setting → Telling → Refusing
RefusesTold g spelled w s e = RefusesName (prefixes g.options) (align_of g.options) w s e
RefusesTold g (under uri) w s e = RefusesUnder (prefixes g.options) (align_of g.options) uri w s e
RefusesTold g (known id) w s e = RefusesKnown (prefixes g.options) (align_of g.options) id w s e

-- ---- values
-- whether the attribute is xsi:nil, by the places of its name
abbrev pub is_nil : NameId → Bool
is_nil name = same_name name nil_name

-- xsi:type names the type by which its element goes on, but not where the production itself tells the datatype, as that of an
-- attribute of this name does, and that of an untyped one (own)
abbrev pub acts_as_type : Valuing → NameId → Bool
acts_as_type untyped name = is_type name
acts_as_type (typed r) name = false
acts_as_type by_name name = is_type name

-- how the value of xsi:type is represented: a name
abbrev pub type_value : Setting → Representation
type_value g = datatype.name (prefixes g.options)

-- how the value of an attribute is represented
abbrev pub represented_by : Setting → Valuing → Named → Representation
represented_by g untyped name = if is_type name.id then type_value g else datatype.text
represented_by g (typed r) name = r
represented_by g by_name name = if is_type name.id then type_value g else (if is_nil name.id then datatype.boolean false else attribute_datatype g.schema.attributes name.name)

-- the grammar of the type that a value names
abbrev pub named_type : Setting → Value → Option ℕ
named_type g (value.name name) = type_grammar g.schema.types name
named_type g v = None

-- whether a type is asked for that is not there
abbrev pub is_missing : Setting → Valuing → NameId → Value → Bool
is_missing g v name found = acts_as_type v name && (strict g.options && is_none (named_type g found))

-- an attribute's value. A type that is not there is a fault at the value in a strict stream (own)
unfoldable pub attribute_value_at : Setting → Valuing → Named → ContextReader Value
attribute_value_at g v name c = do
  found ← valued_at (represented_by g v name) (align_of g.options) name.id c
  if is_missing g v name.id found.0 then Err (record { fault = record { kind = kind.BadType; bit = c.spot.place }; meter = found.1.context.meter }) else Ok found

pub record SpellsAttributeValue (g : Setting) (v : Valuing) (name : Named) (found : Value) (p q : Partitions) (ks : List Charge) (text : List Bool) : Type 0 where
  pub there : is_missing g v name.id found ≡ false
  pub spelled : SpellsValued (represented_by g v name) (align_of g.options) name.id found p q ks text

-- the value is refused; or it is spelled, and its type is not there, which the first bit of the value has
abbrev pub RefusesAttributeValue : Setting → Valuing → Named → Refusing
RefusesAttributeValue g v name w s e =
    RefusesNext (RefusesValued (represented_by g v name) (align_of g.options) name.id) (SpellsValued (represented_by g v name) (align_of g.options) name.id) (λ found u t f. (is_missing g v name.id found ≡ true) × (f ≡ wrong kind.BadType s.place u.meter)) w s e

-- an attribute: its name, and its value
abbrev pub attribute_at : Setting → Telling → Valuing → ContextReader (Named × Value)
attribute_at g t v c = both_at (told_name_at g t) (λ name. attribute_value_at g v name) c

abbrev pub SpellsAttribute : Setting → Telling → Valuing → Spelling (Named × Value)
SpellsAttribute g t v x p q ks text = SpellsBoth (SpellsTold g t) (λ name. SpellsAttributeValue g v name) x p q ks text

abbrev pub RefusesAttribute : Setting → Telling → Valuing → Refusing
RefusesAttribute g t v w s e = RefusesNext (RefusesTold g t) (SpellsTold g t) (λ name. RefusesAttributeValue g v name) w s e

-- characters of a datatype, in an element of this name
abbrev pub characters_at : Setting → Representation → NameId → ContextReader Value
characters_at g r name c = valued_at r (align_of g.options) name c

abbrev pub SpellsCharacters : Setting → Representation → NameId → Spelling Value
SpellsCharacters g r name x p q ks text = SpellsValued r (align_of g.options) name x p q ks text

abbrev pub RefusesCharacters : Setting → Representation → NameId → Refusing
RefusesCharacters g r name w s e = RefusesValued r (align_of g.options) name w s e

-- ---- texts that stand in no string table
abbrev pub text_at : Setting → ContextReader (List ℕ)
text_at g c = literal_at (align_of g.options) no_growth c

abbrev pub SpellsText : Setting → Spelling (List ℕ)
SpellsText g x p q ks text = SpellsLiteral (align_of g.options) no_growth x p q ks text

abbrev pub RefusesText : Setting → Refusing
RefusesText g w s e = RefusesLiteral (align_of g.options) w s e

abbrev pub two_texts_at : Setting → ContextReader (List ℕ × List ℕ)
two_texts_at g c = both_at (text_at g) (λ first. text_at g) c

abbrev pub SpellsTwoTexts : Setting → Spelling (List ℕ × List ℕ)
SpellsTwoTexts g x p q ks text = SpellsBoth (SpellsText g) (λ first. SpellsText g) x p q ks text

abbrev pub RefusesTwoTexts : Setting → Refusing
RefusesTwoTexts g w s e = RefusesNext (RefusesText g) (SpellsText g) (λ first. RefusesText g) w s e

abbrev pub four_texts_at : Setting → ContextReader ((List ℕ × List ℕ) × (List ℕ × List ℕ))
four_texts_at g c = both_at (two_texts_at g) (λ first. two_texts_at g) c

abbrev pub SpellsFourTexts : Setting → Spelling ((List ℕ × List ℕ) × (List ℕ × List ℕ))
SpellsFourTexts g x p q ks text = SpellsBoth (SpellsTwoTexts g) (λ first. SpellsTwoTexts g) x p q ks text

abbrev pub RefusesFourTexts : Setting → Refusing
RefusesFourTexts g w s e = RefusesNext (RefusesTwoTexts g) (SpellsTwoTexts g) (λ first. RefusesTwoTexts g) w s e
