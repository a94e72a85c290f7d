-- Which bits spell names and strings under the string tables (EXI 1.0, sections 7.1.7, 7.1.10 and 7.3), how the tables
-- are grown afterwards, and which texts are charged. In each of these `p` are the tables before and `q` those after, and
-- `ks` are the charges, whose bits count from the first bit of the spelling. No meter has a part in it.
--
-- A text that stands in a partition may be spelled by any place that has it, and may also be spelled out again.
use Rattle.std.specs.Prelude.{◌≡◌, ◌<◌, ℕ, suc, ◌+◌, ◌⊎◌, Bool, true, false, List, [], ◌++◌, length, Option, Some, None, if◌then◌else◌}
use Rattle.exi_bits.specs.declared.align.Align.{Align}
use Rattle.exi_bits.specs.Bits.{number}
use Rattle.exi_bits.specs.Widths.{width_for}
use Rattle.exi_items.specs.Spellings.{SpellsUnsigned}
use Rattle.exi_names.specs.declared.names.NameId.{NameId}
use Rattle.exi_tables.specs.Partitions.{Partitions, live_at, locals, prefixes, uris, values, with_local, with_prefix, with_uri, with_value}
use Rattle.exi_text.specs.Spelled.{SpellsChars}
use Rattle.exi_typed.specs.Charging.{Charge, later, one_charge}
use Rattle.exi_typed.specs.Strings.{Declaration, Growth, Named, Partition, listed, own_values, place_in}

-- a spelling of one thing
abbrev pub OneSpelling : Type 1
OneSpelling = Partitions → Partitions → List Charge → List Bool → Type 0

-- no bits and no charges, and the tables stay
pub record IsNothing (p q : Partitions) (ks : List Charge) (text : List Bool) : Type 0 where
  pub bits : text ≡ []
  pub charges : ks ≡ []
  pub after : q ≡ p

-- bits alone, and a spelling right behind them
pub record Behind (First : List Bool → Type 0) (Second : OneSpelling) (p q : Partitions) (ks : List Charge) (text : List Bool) : Type 0 where
  pub first : List Bool
  pub second : List Bool
  pub parts : text ≡ first ++ second
  pub owed : List Charge
  pub charges : ks ≡ later (length first) owed
  pub front : First first
  pub behind : Second p q owed second

-- one spelling right behind another, with the tables in between
pub record Follows (First Second : OneSpelling) (p q : Partitions) (ks : List Charge) (text : List Bool) : Type 0 where
  pub between : Partitions
  pub first : List Bool
  pub second : List Bool
  pub parts : text ≡ first ++ second
  pub paid : List Charge
  pub owed : List Charge
  pub charges : ks ≡ paid ++ later (length first) owed
  pub front : First p between paid first
  pub behind : Second between q owed second

-- ---- one text
-- a text by a place that has it, charged behind the place
pub record IsHit (a : Align) (partition : Partition) (x : List ℕ) (p q : Partitions) (ks : List Charge) (text : List Bool) : Type 0 where
  pub place : ℕ
  pub within : place < partition.count
  pub stands : partition.text_at place ≡ Some x
  pub bits : text ≡ number (width_for partition.count) a place
  pub charges : ks ≡ one_charge (length x) (length text)
  pub after : q ≡ p

-- the characters of a text behind its length, charged before the first; the text is added
pub record IsMissed (set : Option (List ℕ)) (a : Align) (grow : Growth) (x : List ℕ) (p q : Partitions) (ks : List Charge) (text : List Bool) : Type 0 where
  pub spelled : SpellsChars set a x text
  pub charges : ks ≡ one_charge (length x) 0
  pub after : q ≡ grow p x

-- length and characters
abbrev pub SpellsLiteral : Align → Growth → List ℕ → OneSpelling
SpellsLiteral a grow x p q ks text = Behind (SpellsUnsigned (length x)) (IsMissed None a grow x) p q ks text

-- a text by a number one above a place that has it
pub record IsIndexed (a : Align) (texts : List (List ℕ)) (x : List ℕ) (p q : Partitions) (ks : List Charge) (text : List Bool) : Type 0 where
  pub place : ℕ
  pub stands : live_at texts place ≡ Some x
  pub bits : text ≡ number (width_for (length texts + 1)) a (place + 1)
  pub charges : ks ≡ one_charge (length x) (length text)
  pub after : q ≡ p

-- the number 0 and a literal, or a number above 0
abbrev pub SpellsIndexed : Align → List (List ℕ) → Growth → List ℕ → OneSpelling
SpellsIndexed a texts grow x p q ks text = Behind (λ code. code ≡ number (width_for (length texts + 1)) a 0) (SpellsLiteral a grow x) p q ks text ⊎ IsIndexed a texts x p q ks text

-- ---- names
abbrev pub SpellsUri : Align → List ℕ → OneSpelling
SpellsUri a x p q ks text = SpellsIndexed a (uris p) with_uri x p q ks text

abbrev pub SpellsLocal : Align → ℕ → List ℕ → OneSpelling
SpellsLocal a uri x p q ks text =
    Behind (SpellsUnsigned 0) (IsHit a (listed (locals p uri)) x) p q ks text
    ⊎ Behind (SpellsUnsigned (suc (length x))) (IsMissed None a (λ r. with_local r uri) x) p q ks text

abbrev pub SpellsPrefix : Bool → Align → ℕ → Option (List ℕ) → OneSpelling
SpellsPrefix false a uri None p q ks text = IsNothing p q ks text
SpellsPrefix false a uri (Some x) p q ks text = ⊥
SpellsPrefix true a uri None p q ks text = (prefixes p uri ≡ []) × IsNothing p q ks text
SpellsPrefix true a uri (Some x) p q ks text = IsHit a (listed (prefixes p uri)) x p q ks text

-- the local name of a name and its prefix; the name goes on as the least place of its text
pub record SpellsNameUnder (keep : Bool) (a : Align) (uri : ℕ) (space : List ℕ) (n : Named) (p q : Partitions) (ks : List Charge) (text : List Bool) : Type 0 where
  pub spelled : Follows (SpellsLocal a uri n.name.local) (SpellsPrefix keep a uri n.name.prefix) p q ks text
  pub space_is : n.name.uri ≡ space
  pub id_is : n.id ≡ record { uri = uri; local = place_in (locals q uri) n.name.local }

-- a qualified name: its URI, and what stands under the least place that then has it
abbrev pub SpellsName : Bool → Align → Named → OneSpelling
SpellsName keep a n p q ks text = Follows (SpellsUri a n.name.uri) (λ r. SpellsNameUnder keep a (place_in (uris r) n.name.uri) n.name.uri n r) p q ks text

-- these are charged, and no bits
pub record ChargesOnly (owed : List Charge) (p q : Partitions) (ks : List Charge) (text : List Bool) : Type 0 where
  pub bits : text ≡ []
  pub charges : ks ≡ owed
  pub after : q ≡ p

-- a name that the event code tells: its texts are charged (own), and only its prefix has bits
pub record SpellsKnown (keep : Bool) (a : Align) (id : NameId) (n : Named) (p q : Partitions) (ks : List Charge) (text : List Bool) : Type 0 where
  pub id_is : n.id ≡ id
  pub uri_stands : live_at (uris p) id.uri ≡ Some n.name.uri
  pub local_stands : live_at (locals p id.uri) id.local ≡ Some n.name.local
  pub spelled : Follows (ChargesOnly (one_charge (length n.name.uri) 0 ++ one_charge (length n.name.local) 0)) (SpellsPrefix keep a id.uri n.name.prefix) p q ks text

abbrev flag_bit : Bool → ℕ
flag_bit element = if element then 1 else 0

-- the bit that says whether the prefix is that of the element
pub record SpellsFlag (a : Align) (element : Bool) (p q : Partitions) (ks : List Charge) (text : List Bool) : Type 0 where
  pub bits : text ≡ number 1 a (flag_bit element)
  pub charges : ks ≡ []
  pub after : q ≡ p

-- a prefix in the partition of a URI
abbrev pub SpellsNewPrefix : Align → List ℕ → List ℕ → OneSpelling
SpellsNewPrefix a uri x p q ks text = SpellsIndexed a (prefixes p (place_in (uris p) uri)) (λ r. with_prefix r (place_in (uris p) uri)) x p q ks text

-- a namespace declaration
abbrev pub SpellsDeclaration : Align → Declaration → OneSpelling
SpellsDeclaration a d p q ks text = Follows (SpellsUri a d.uri) (Follows (SpellsNewPrefix a d.uri d.prefix) (SpellsFlag a d.element)) p q ks text

-- ---- values
abbrev pub SpellsValue : Option (List ℕ) → Align → NameId → List ℕ → OneSpelling
SpellsValue set a name x p q ks text =
    Behind (SpellsUnsigned 0) (IsHit a (own_values p name) x) p q ks text
    ⊎ Behind (SpellsUnsigned 1) (IsHit a (listed (values p)) x) p q ks text
    ⊎ Behind (SpellsUnsigned (suc (suc (length x)))) (IsMissed set a (λ r. with_value r name) x) p q ks text
