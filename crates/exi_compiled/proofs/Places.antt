-- Where the grammars of types and elements stand.
use Rattle.std.proofs.Common.{◌≡◌, inl, inr, ℕ, zero, suc, ◌+◌, ◌*◌, ◌%◌, ◌<◌, ◌≤◌, Bool, true, false, leb, if◌then◌else◌, List, [], ◌∷◌, length, map, refl, arith}
use Rattle.std.specs.Prelude.{◌==◌, ◌||◌}
use Rattle.std.proofs.lemmas.Bool.{cases_eq, eq-eqb, or_left, or_right}
use Rattle.exi_gram.specs.Laws.{places_from}
use Rattle.xsd_model.specs.declared.parts.ElementDecl.{ElementDecl}
use Rattle.xsd_model.specs.declared.parts.TypeDef.{TypeDef}
use Rattle.xsd_model.specs.Parts.{Parts}
use Rattle.exi_elements.specs.StandIns.{opener}
use Rattle.exi_compiled.specs.Compiled.{Item, element_grammar, grammar_from, in_document, items_of, of_element, of_type, same_item, type_grammar}
use Rattle.exi_compiled.proofs.Drafts.{opener_below}

-- a grammar before its empty form, of so many grammars
pub record IsFullBelow (count place : ℕ) : Type 0 where
  pub past : 2 ≤ place
  pub even : place % 2 ≡ 0
  pub below : place + 1 < count

pub full_more : (count more place : ℕ) → count ≤ more → IsFullBelow count place → IsFullBelow more place
full_more count more place le h = let b : place + 1 < count = h.below in record { past = h.past; even = h.even; below = omega arith }

pub even_more : (place : ℕ) → place % 2 ≡ 0 → (2 + place) % 2 ≡ 0
even_more place e = omega arith

-- ---- what is among the items
abbrev pub is_item_among : Item → List Item → Bool
is_item_among item [] = false
is_item_among item (i ∷ is) = same_item item i || is_item_among item is

pub from_is : (place : ℕ) (item : Item) (is : List Item) → 2 ≤ place → place % 2 ≡ 0 → is_item_among item is ≡ true → IsFullBelow (place + 2 * length is) (grammar_from place item is)
from_is place item [] past even among = absurd cc
from_is place item (i ∷ is) past even among = by (same_item item i) (from_is (2 + place) item is (omega arith) (even_more place even)) among
  where
    by : (b : Bool) → (is_item_among item is ≡ true → IsFullBelow ((2 + place) + 2 * length is) (grammar_from (2 + place) item is)) → (b || is_item_among item is) ≡ true
        → IsFullBelow (place + 2 * length (i ∷ is)) (if b then place else grammar_from (2 + place) item is)
    by true h e = record { past = past; even = even; below = omega arith }
    by false h e = let same : (2 + place) + 2 * length is ≤ place + 2 * length (i ∷ is) = omega arith in full_more _ _ _ same (h e)

types_among : {X : Type 0} (t : ℕ) (xs : List X) (k : ℕ) → t ≤ k → k < t + length xs → is_item_among (of_type k) (map of_type (places_from t xs)) ≡ true
types_among t [] k le less = absurd (omega arith)
types_among t (x ∷ xs) k le less = elim (cases_eq k t) [
  | inl e ↦ or_left (k == t) (is_item_among (of_type k) (map of_type (places_from (suc t) xs))) (eq-eqb k t e)
  | inr n ↦
      let l : k < t + suc (length xs) = less in
      or_right (k == t) (is_item_among (of_type k) (map of_type (places_from (suc t) xs))) (types_among (suc t) xs k (omega arith) (omega arith))
]

elements_among : {X : Type 0} (t : ℕ) (xs : List X) (k : ℕ) → t ≤ k → k < t + length xs → is_item_among (of_element k) (map of_element (places_from t xs)) ≡ true
elements_among t [] k le less = absurd (omega arith)
elements_among t (x ∷ xs) k le less = elim (cases_eq k t) [
  | inl e ↦ or_left (k == t) (is_item_among (of_element k) (map of_element (places_from (suc t) xs))) (eq-eqb k t e)
  | inr n ↦
      let l : k < t + suc (length xs) = less in
      or_right (k == t) (is_item_among (of_element k) (map of_element (places_from (suc t) xs))) (elements_among (suc t) xs k (omega arith) (omega arith))
]

-- this place, or one behind it
here_or : (k t : ℕ) (rest : Bool) → t ≤ k → (suc t ≤ k → rest ≡ true) → ((k == t) || rest) ≡ true
here_or k t rest le h = elim (cases_eq k t) [
  | inl e ↦ or_left (k == t) rest (eq-eqb k t e)
  | inr n ↦ or_right (k == t) rest (h (omega arith))
]

document_types : (n t : ℕ) (types : List TypeDef) (e : ℕ) (elements : List ElementDecl) (k : ℕ) → length types + length elements < n → t ≤ k → k < t + length types → is_item_among (of_type k) (in_document n t types e elements) ≡ true
document_types zero t types e elements k enough le less = absurd (omega arith)
document_types (suc n) t [] e elements k enough le less = absurd (omega arith)
document_types (suc n) t (x ∷ types) e [] k enough le less = types_among t (x ∷ types) k le less
document_types (suc n) t (x ∷ types) e (y ∷ elements) k enough le less =
    let a : suc (length types) + suc (length elements) < suc n = enough in
    let b : k < t + suc (length types) = less in
    by (leb x.event y.event)
    (λ more. document_types n (suc t) types e (y ∷ elements) k (omega arith) more (omega arith))
    (document_types n t (x ∷ types) (suc e) elements k (omega arith) le less)
  where
    by : (b : Bool) → (suc t ≤ k → is_item_among (of_type k) (in_document n (suc t) types e (y ∷ elements)) ≡ true) → is_item_among (of_type k) (in_document n t (x ∷ types) (suc e) elements) ≡ true
        → is_item_among (of_type k) (if b then of_type t ∷ in_document n (suc t) types e (y ∷ elements) else of_element e ∷ in_document n t (x ∷ types) (suc e) elements) ≡ true
    by true h j = here_or k t (is_item_among (of_type k) (in_document n (suc t) types e (y ∷ elements))) le h
    by false h j = j

document_elements : (n t : ℕ) (types : List TypeDef) (e : ℕ) (elements : List ElementDecl) (k : ℕ) → length types + length elements < n → e ≤ k → k < e + length elements → is_item_among (of_element k) (in_document n t types e elements) ≡ true
document_elements zero t types e elements k enough le less = absurd (omega arith)
document_elements (suc n) t [] e elements k enough le less = elements_among e elements k le less
document_elements (suc n) t (x ∷ types) e [] k enough le less = absurd (omega arith)
document_elements (suc n) t (x ∷ types) e (y ∷ elements) k enough le less =
    let a : suc (length types) + suc (length elements) < suc n = enough in
    let b : k < e + suc (length elements) = less in
    by (leb x.event y.event)
    (document_elements n (suc t) types e (y ∷ elements) k (omega arith) le less)
    (λ more. document_elements n t (x ∷ types) (suc e) elements k (omega arith) more (omega arith))
  where
    by : (b : Bool) → is_item_among (of_element k) (in_document n (suc t) types e (y ∷ elements)) ≡ true → (suc e ≤ k → is_item_among (of_element k) (in_document n t (x ∷ types) (suc e) elements) ≡ true)
        → is_item_among (of_element k) (if b then of_type t ∷ in_document n (suc t) types e (y ∷ elements) else of_element e ∷ in_document n t (x ∷ types) (suc e) elements) ≡ true
    by true h j = h
    by false h j = here_or k e (is_item_among (of_element k) (in_document n t (x ∷ types) (suc e) elements)) le j

-- ---- how many items there are
places_count : {X : Type 0} (f : ℕ → Item) (t : ℕ) (xs : List X) → length (map f (places_from t xs)) ≡ length xs
places_count f t [] = refl
places_count f t (x ∷ xs) = let same : length (map f (places_from (suc t) xs)) ≡ length xs = places_count f (suc t) xs in omega (arith, same)

document_few : (n t : ℕ) (types : List TypeDef) (e : ℕ) (elements : List ElementDecl) → length (in_document n t types e elements) ≤ length types + length elements
document_few zero t types e elements = omega arith
document_few (suc n) t [] e elements = let same : length (map of_element (places_from e elements)) ≡ length elements = places_count of_element e elements in omega (arith, same)
document_few (suc n) t (x ∷ types) e [] = let same : length (map of_type (places_from t (x ∷ types))) ≡ length (x ∷ types) = places_count of_type t (x ∷ types) in omega (arith, same)
document_few (suc n) t (x ∷ types) e (y ∷ elements) = by (leb x.event y.event) (document_few n (suc t) types e (y ∷ elements)) (document_few n t (x ∷ types) (suc e) elements)
  where
    by : (b : Bool) → length (in_document n (suc t) types e (y ∷ elements)) ≤ length types + length (y ∷ elements) → length (in_document n t (x ∷ types) (suc e) elements) ≤ length (x ∷ types) + length elements
        → length (if b then of_type t ∷ in_document n (suc t) types e (y ∷ elements) else of_element e ∷ in_document n t (x ∷ types) (suc e) elements) ≤ length (x ∷ types) + length (y ∷ elements)
    by true h j = omega arith
    by false h j = omega arith

pub items_few : (p : Parts) → length (items_of p) ≤ length p.types + length p.elements
items_few p = document_few (suc (length p.types + length p.elements)) 0 p.types 0 p.elements

-- ---- the grammars
pub type_full : (p : Parts) (place : ℕ) → place < length p.types → IsFullBelow (2 + 2 * length (items_of p)) (type_grammar p place)
type_full p place less =
    from_is 2 (of_type place) (items_of p) (omega arith) (omega arith)
    (document_types (suc (length p.types + length p.elements)) 0 p.types 0 p.elements place (omega arith) (omega arith) (omega arith))

pub element_full : (p : Parts) (place : ℕ) → place < length p.elements → IsFullBelow (2 + 2 * length (items_of p)) (element_grammar p place)
element_full p place less =
    let opens : opener p place < length p.elements = opener_below p place less in
    from_is 2 (of_element (opener p place)) (items_of p) (omega arith) (omega arith)
    (document_elements (suc (length p.types + length p.elements)) 0 p.types 0 p.elements (opener p place) (omega arith) (omega arith) (omega (arith, opens)))
