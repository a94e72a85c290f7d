-- The names of a schema's elements and attributes, wherever they are declared (EXI 1.0, sections 8.5.2 and 8.5.3).
use Rattle.std.specs.Prelude.{ℕ, suc, ◌==◌, ◌&&◌, ◌||◌, Bool, true, false, Option, Some, None, List, [], ◌∷◌, slice_get, bytes_eq, if◌then◌else◌}
use Rattle.exi_gram.specs.Orders.{in_order, pair_before}
use Rattle.xsd_model.specs.declared.parts.AttributeDecl.{AttributeDecl}
use Rattle.xsd_model.specs.declared.parts.ElementDecl.{ElementDecl}

abbrev pub Pair : Type 0
Pair = List ℕ × List ℕ

abbrev pub same_pair : Pair → Pair → Bool
same_pair a b = bytes_eq a.0 b.0 && bytes_eq a.1 b.1

-- the local names and the URIs
abbrev pub element_name : ElementDecl → Pair
element_name e = (e.name.local, e.name.uri)

abbrev pub attribute_name : AttributeDecl → Pair
attribute_name a = (a.name.local, a.name.uri)

-- ---- of each name the place of its first declaration, in the order of the names
abbrev pub is_pair_among : Pair → List Pair → Bool
is_pair_among name [] = false
is_pair_among name (n ∷ ns) = same_pair name n || is_pair_among name ns

-- the places, from one on, of those that come first with their name
abbrev pub firsts_from : List Pair → ℕ → List Pair → List ℕ
firsts_from seen place [] = []
firsts_from seen place (n ∷ ns) = if is_pair_among n seen then firsts_from seen (suc place) ns else place ∷ firsts_from (n ∷ seen) (suc place) ns

abbrev pub pair_at : List Pair → ℕ → Pair
pair_at names place = or_none (slice_get names place)
  where
    or_none : Option Pair → Pair
    or_none None = ([], [])
    or_none (Some name) = name

abbrev pub place_before : List Pair → ℕ → ℕ → Bool
place_before names a b = pair_before (pair_at names a) (pair_at names b)

abbrev pub names_in_order : List Pair → List ℕ
names_in_order names = in_order (place_before names) (firsts_from [] 0 names)

-- ---- whether all declarations of a name agree with the first
abbrev pub same_flag : Bool → Bool → Bool
same_flag true b = b
same_flag false true = false
same_flag false false = true

-- elements of one name that open one grammar: they have the same type, and xsi:nil can empty all or none
abbrev pub alike : ElementDecl → ElementDecl → Bool
alike a b = a.of == b.of && same_flag a.nillable b.nillable

abbrev pub all_alike : ElementDecl → List ElementDecl → Bool
all_alike e [] = true
all_alike e (d ∷ ds) = if same_pair (element_name e) (element_name d) then alike e d && all_alike e ds else all_alike e ds

-- attributes of one name that have one type
abbrev pub all_of_type : AttributeDecl → List AttributeDecl → Bool
all_of_type a [] = true
all_of_type a (d ∷ ds) = if same_pair (attribute_name a) (attribute_name d) then a.of == d.of && all_of_type a ds else all_of_type a ds

-- ---- the global elements, in the order of their names
abbrev pub global_places_from : ℕ → List ElementDecl → List ℕ
global_places_from place [] = []
global_places_from place (e ∷ es) = if e.global then place ∷ global_places_from (suc place) es else global_places_from (suc place) es
