-- What a schema declares under a name: the global elements, the global attributes and the types (EXI 1.0, sections 8.4.3
-- and 8.5.4.4).
use Rattle.std.specs.Prelude.{◌≡◌, ℕ, suc, ◌&&◌, Bool, false, List, [], ◌∷◌, Option, Some, None, fold, map, nat_eq, encode_utf8_all, slice_get, if◌then◌else◌}
use Rattle.std.specs.Hash as fed
use Rattle.std.specs.Hash.FoldHasher as folding
use Rattle.std.specs.Map.{lookup}
use Rattle.std.specs.Str.{bytes_eq}
use Rattle.exi_gram.specs.Candidates.{listed_or}
use Rattle.exi_gram.specs.Outlines.{Outline}
use Rattle.exi_gram.specs.declared.entry.ElementEntry.{ElementEntry}
use Rattle.exi_gram.specs.declared.entry.TypeEntry.{TypeEntry}
use Rattle.exi_names.specs.Datatypes.{Representation, represented}
use Rattle.exi_names.specs.Datatypes as datatype
use Rattle.exi_names.specs.declared.datatype.Datatype.{Datatype}
use Rattle.exi_names.specs.declared.names.QName.{QName}

-- one URI and one local name, whatever the prefixes
abbrev pub same_texts : QName → QName → Bool
same_texts a b = bytes_eq a.uri b.uri && bytes_eq a.local b.local

-- the grammar of the global element of this name
abbrev pub element_grammar : List ElementEntry → QName → Option ℕ
element_grammar [] name = None
element_grammar (e ∷ es) name = if same_texts e.name name then Some e.full else element_grammar es name

-- the datatype of the global attribute of this name; any other attribute has a string
abbrev pub attribute_datatype : List (QName × Representation) → QName → Representation
attribute_datatype [] name = datatype.text
attribute_datatype (a ∷ as_) name = if same_texts a.0 name then a.1 else attribute_datatype as_ name

-- the grammar of the type of this name
abbrev pub is_named : Option QName → QName → Bool
is_named None name = false
is_named (Some own) name = same_texts own name

abbrev pub type_grammar : List TypeEntry → QName → Option ℕ
type_grammar [] name = None
type_grammar (t ∷ ts) name = if is_named t.name name then Some t.full else type_grammar ts name

-- how the value of an attribute is represented whose datatype is told, or not
abbrev pub represented_by : Option Datatype → Representation
represented_by None = datatype.text
represented_by (Some d) = represented d

-- ---- how they are kept: the places of the names by their hashes
-- the hash of a name, whatever its prefix
unfoldable pub name_hash : List ℕ → List ℕ → ℕ
name_hash uri local = folding.finish (fold folding.write (fold folding.write folding.initial (fed.str (encode_utf8_all uri))) (fed.str (encode_utf8_all local)))

abbrev pub has_hash : ℕ → Option QName → Bool
has_hash hash None = false
has_hash hash (Some name) = nat_eq hash (name_hash name.uri name.local)

-- the places, from one on, of the names that have a hash
abbrev pub hashed_from : ℕ → ℕ → List (Option QName) → List ℕ
hashed_from hash place [] = []
hashed_from hash place (name ∷ names) = if has_hash hash name then place ∷ hashed_from hash (suc place) names else hashed_from hash (suc place) names

abbrev pub Hashed : Type 0
Hashed = List (ℕ × List ℕ)

abbrev pub places_under : Hashed → ℕ → List ℕ
places_under kept hash = listed_or (lookup (nat_eq hash) kept)

-- the places of each of these names are found
abbrev pub FindsNames : Hashed → List (Option QName) → Type 0
FindsNames kept names = (hash : ℕ) → places_under kept hash ≡ hashed_from hash 0 names

abbrev pub element_names : List ElementEntry → List (Option QName)
element_names = map (λ e. Some e.name)

abbrev pub attribute_names : {D : Type 0} → List (QName × D) → List (Option QName)
attribute_names = map (λ a. Some a.0)

abbrev pub type_names : List TypeEntry → List (Option QName)
type_names = map (λ t. t.name)

pub record Places : Type 0 where
  pub elements : Hashed
  pub attributes : Hashed
  pub types : Hashed

-- what a schema declares is found
pub record FindsDeclared (p : Places) (o : Outline) : Type 0 where
  pub elements : FindsNames p.elements (element_names o.globals)
  pub attributes : FindsNames p.attributes (attribute_names o.attributes)
  pub types : FindsNames p.types (type_names o.types)

-- ---- what stands at the first of some places that passes
abbrev pub passes : {X : Type 0} → (X → Bool) → Option X → Bool
passes test None = false
passes test (Some x) = test x

abbrev pub told_of : {X A : Type 0} → (X → A) → A → Option X → A
told_of answer none None = none
told_of answer none (Some x) = answer x

abbrev pub first_at : {X A : Type 0} → (X → Bool) → (X → A) → A → List X → List ℕ → A
first_at test answer none xs [] = none
first_at test answer none xs (place ∷ places) = if passes test (slice_get xs place) then told_of answer none (slice_get xs place) else first_at test answer none xs places
