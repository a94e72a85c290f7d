-- Which elements may stand where one is named: itself and the members of its substitution group (XML Schema 1.0 Part 1, section
-- 2.2.2.2), and which declarations open one grammar.
use Rattle.std.specs.Prelude.{ℕ, zero, suc, ◌==◌, ◌&&◌, ◌||◌, not, Bool, false, Option, Some, None, List, [], ◌∷◌, length, filter, slice_get, bytes_eq, if◌then◌else◌}
use Rattle.exi_gram.specs.Laws.{places_from}
use Rattle.exi_gram.specs.Orders.{in_order, pair_before}
use Rattle.xsd_model.specs.declared.parts.ElementDecl.{ElementDecl}
use Rattle.xsd_model.specs.Parts.{Parts, heads_at}

-- the local name and the URI of the element at a place
abbrev pub element_pair : Parts → ℕ → List ℕ × List ℕ
element_pair p place = of_declaration (slice_get p.elements place)
  where
    of_declaration : Option ElementDecl → List ℕ × List ℕ
    of_declaration None = ([], [])
    of_declaration (Some e) = (e.name.local, e.name.uri)

-- ---- substitution groups
abbrev pub any_of : (ℕ → Bool) → List ℕ → Bool
any_of test [] = false
any_of test (x ∷ xs) = test x || any_of test xs

-- an element is this one, or its heads lead there within so many steps
abbrev pub leads_to : ℕ → Parts → ℕ → ℕ → Bool
leads_to zero p head place = false
leads_to (suc n) p head place = place == head || any_of (leads_to n p head) (heads_at p place)

abbrev pub element_before : Parts → ℕ → ℕ → Bool
element_before p a b = pair_before (element_pair p a) (element_pair p b)

-- the element at a place and all whose heads lead to it, by the local name, then by the URI
abbrev pub stand_ins : Parts → ℕ → List ℕ
stand_ins p head = in_order (element_before p) (filter (leads_to (suc (length p.elements)) p head) (places_from 0 p.elements))

-- ---- one grammar
abbrev pub same_flag : Bool → Bool → Bool
same_flag a b = if a then b else not b

-- two declarations open one grammar where they have the same name and type, and xsi:nil can empty both or neither
abbrev pub opens_alike : ElementDecl → ElementDecl → Bool
opens_alike a b = bytes_eq a.name.local b.name.local && (bytes_eq a.name.uri b.name.uri && (a.of == b.of && same_flag a.nillable b.nillable))

abbrev pub first_alike : ℕ → ElementDecl → List ElementDecl → ℕ
first_alike place e [] = place
first_alike place e (d ∷ ds) = if opens_alike e d then place else first_alike (suc place) e ds

-- the place of the first declaration that opens the grammar of the one at a place
abbrev pub opener : Parts → ℕ → ℕ
opener p place = of_declaration (slice_get p.elements place)
  where
    of_declaration : Option ElementDecl → ℕ
    of_declaration None = place
    of_declaration (Some e) = first_alike 0 e p.elements
