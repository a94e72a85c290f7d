-- The places of grammars tell of each type and element where its grammar stands.
use Rattle.std.proofs.Common.{◌≡◌, inl, inr, ℕ, zero, suc, ◌+◌, ◌*◌, ◌^◌, ◌<◌, ◌≤◌, ◌==◌, Bool, true, false, leb, if◌then◌else◌, List, [], ◌∷◌, ◌++◌, get_or, length, map, refl, sym, ap, ◌∙◌, arith}
use Rattle.std.proofs.lemmas.Bool.{cases_eq, cases_lt, eq-eqb, eqb-true}
use Rattle.std.proofs.lemmas.List.{get_or_append_left, get_or_past, get_or_push, length_push}
use Rattle.exi_gram.specs.Laws.{places_from}
use Rattle.xsd_model.specs.declared.parts.ElementDecl.{ElementDecl}
use Rattle.xsd_model.specs.declared.parts.TypeDef.{TypeDef}
use Rattle.xsd_model.specs.Parts.{Parts}
use Rattle.exi_elements.specs.StandIns.{opener}
use Rattle.exi_compiled.specs.Compiled.{Item, element_grammar, grammar_from, in_document, items_of, of_element, of_type, type_grammar}
use Rattle.exi_compiled.proofs.Drafts.{opener_below}
use Rattle.exi_compiled.proofs.Places.{IsFullBelow, element_full, items_few, type_full}
use Rattle.exi_compile.specs.Order.{element_places_from, type_places_from}
use Rattle.exi_compile.specs.Tables.{Tells}

other_number : (a b : ℕ) (X : Type 0) (x y : X) → (a ≡ b → ⊥) → (if a == b then x else y) ≡ y
other_number a b X x y n = by (a == b) (λ e. n (eqb-true a b e))
  where
    by : (t : Bool) → (t ≡ true → ⊥) → (if t then x else y) ≡ y
    by true h = absurd (h refl)
    by false h = refl

same_number : (a b : ℕ) (X : Type 0) (x y : X) → a ≡ b → (if a == b then x else y) ≡ x
same_number a b X x y e = ap (λ t. if t then x else y) (eq-eqb a b e)

-- ---- types that are numbered in their order, from one on
abbrev TypesRise : ℕ → List Item → Type 0
TypesRise t [] = Unit {0}
TypesRise t (of_type k ∷ is) = (k ≡ t) × TypesRise (suc t) is
TypesRise t (of_element k ∷ is) = TypesRise t is

abbrev ElementsRise : ℕ → List Item → Type 0
ElementsRise e [] = Unit {0}
ElementsRise e (of_type k ∷ is) = ElementsRise e is
ElementsRise e (of_element k ∷ is) = (k ≡ e) × ElementsRise (suc e) is

type_at : (at t k i : ℕ) (is : List Item) → TypesRise t is → k ≡ t + i → i < length (type_places_from at is) → get_or (type_places_from at is) i 0 ≡ grammar_from at (of_type k) is
type_at at t k i [] rise e less = absurd (omega (arith, less))
type_at at t k zero (of_type j ∷ is) rise e less = sym (same_number k j ℕ at (grammar_from (2 + at) (of_type k) is) (let first : j ≡ t = rise.0 in omega (arith, e, first)))
type_at at t k (suc i) (of_type j ∷ is) rise e less =
    type_at (2 + at) (suc t) k i is rise.1 (omega (arith, e)) (omega (arith, less))
    ∙ sym (other_number k j ℕ at (grammar_from (2 + at) (of_type k) is) (λ same. let first : j ≡ t = rise.0 in omega (arith, e, first, same)))
type_at at t k i (of_element j ∷ is) rise e less = type_at (2 + at) t k i is rise e less

element_at : (at t k i : ℕ) (is : List Item) → ElementsRise t is → k ≡ t + i → i < length (element_places_from at is) → get_or (element_places_from at is) i 0 ≡ grammar_from at (of_element k) is
element_at at t k i [] rise e less = absurd (omega (arith, less))
element_at at t k i (of_type j ∷ is) rise e less = element_at (2 + at) t k i is rise e less
element_at at t k zero (of_element j ∷ is) rise e less = sym (same_number k j ℕ at (grammar_from (2 + at) (of_element k) is) (let first : j ≡ t = rise.0 in omega (arith, e, first)))
element_at at t k (suc i) (of_element j ∷ is) rise e less =
    element_at (2 + at) (suc t) k i is rise.1 (omega (arith, e)) (omega (arith, less))
    ∙ sym (other_number k j ℕ at (grammar_from (2 + at) (of_element k) is) (λ same. let first : j ≡ t = rise.0 in omega (arith, e, first, same)))

-- ---- in the document
types_rise : {X : Type 0} (t : ℕ) (xs : List X) → TypesRise t (map of_type (places_from t xs))
types_rise t [] = tt
types_rise t (x ∷ xs) = (refl, types_rise (suc t) xs)

no_elements : {X : Type 0} (e t : ℕ) (xs : List X) → ElementsRise e (map of_type (places_from t xs))
no_elements e t [] = tt
no_elements e t (x ∷ xs) = no_elements e (suc t) xs

elements_rise : {X : Type 0} (e : ℕ) (xs : List X) → ElementsRise e (map of_element (places_from e xs))
elements_rise e [] = tt
elements_rise e (x ∷ xs) = (refl, elements_rise (suc e) xs)

no_types : {X : Type 0} (t e : ℕ) (xs : List X) → TypesRise t (map of_element (places_from e xs))
no_types t e [] = tt
no_types t e (x ∷ xs) = no_types t (suc e) xs

document_types : (n t : ℕ) (types : List TypeDef) (e : ℕ) (elements : List ElementDecl) → TypesRise t (in_document n t types e elements)
document_types zero t types e elements = tt
document_types (suc n) t [] e elements = no_types t e elements
document_types (suc n) t (x ∷ types) e [] = types_rise t (x ∷ types)
document_types (suc n) t (x ∷ types) e (y ∷ elements) = by (leb x.event y.event) (document_types n (suc t) types e (y ∷ elements)) (document_types n t (x ∷ types) (suc e) elements)
  where
    by : (b : Bool) → TypesRise (suc t) (in_document n (suc t) types e (y ∷ elements)) → TypesRise t (in_document n t (x ∷ types) (suc e) elements)
        → TypesRise t (if b then of_type t ∷ in_document n (suc t) types e (y ∷ elements) else of_element e ∷ in_document n t (x ∷ types) (suc e) elements)
    by true h j = (refl, h)
    by false h j = j

document_elements : (n t : ℕ) (types : List TypeDef) (e : ℕ) (elements : List ElementDecl) → ElementsRise e (in_document n t types e elements)
document_elements zero t types e elements = tt
document_elements (suc n) t [] e elements = elements_rise e elements
document_elements (suc n) t (x ∷ types) e [] = no_elements e t (x ∷ types)
document_elements (suc n) t (x ∷ types) e (y ∷ elements) = by (leb x.event y.event) (document_elements n (suc t) types e (y ∷ elements)) (document_elements n t (x ∷ types) (suc e) elements)
  where
    by : (b : Bool) → ElementsRise e (in_document n (suc t) types e (y ∷ elements)) → ElementsRise (suc e) (in_document n t (x ∷ types) (suc e) elements)
        → ElementsRise e (if b then of_type t ∷ in_document n (suc t) types e (y ∷ elements) else of_element e ∷ in_document n t (x ∷ types) (suc e) elements)
    by true h j = h
    by false h j = (refl, j)

-- ---- how many there are
count_types : {X : Type 0} (at t : ℕ) (xs : List X) → length (type_places_from at (map of_type (places_from t xs))) ≡ length xs
count_types at t [] = refl
count_types at t (x ∷ xs) = ap suc (count_types (2 + at) (suc t) xs)

count_no_types : {X : Type 0} (at e : ℕ) (xs : List X) → length (type_places_from at (map of_element (places_from e xs))) ≡ 0
count_no_types at e [] = refl
count_no_types at e (x ∷ xs) = count_no_types (2 + at) (suc e) xs

count_elements : {X : Type 0} (at e : ℕ) (xs : List X) → length (element_places_from at (map of_element (places_from e xs))) ≡ length xs
count_elements at e [] = refl
count_elements at e (x ∷ xs) = ap suc (count_elements (2 + at) (suc e) xs)

count_no_elements : {X : Type 0} (at t : ℕ) (xs : List X) → length (element_places_from at (map of_type (places_from t xs))) ≡ 0
count_no_elements at t [] = refl
count_no_elements at t (x ∷ xs) = count_no_elements (2 + at) (suc t) xs

all_types : (n t : ℕ) (types : List TypeDef) (e : ℕ) (elements : List ElementDecl) (at : ℕ) → length types + length elements < n → length (type_places_from at (in_document n t types e elements)) ≡ length types
all_types zero t types e elements at enough = absurd (omega (arith, enough))
all_types (suc n) t [] e elements at enough = count_no_types at e elements
all_types (suc n) t (x ∷ types) e [] at enough = count_types at t (x ∷ types)
all_types (suc n) t (x ∷ types) e (y ∷ elements) at enough =
    let few : suc (length types) + suc (length elements) < suc n = enough in
    by (leb x.event y.event) (all_types n (suc t) types e (y ∷ elements) (2 + at) (omega (arith, few))) (all_types n t (x ∷ types) (suc e) elements (2 + at) (omega (arith, few)))
  where
    by : (b : Bool) → length (type_places_from (2 + at) (in_document n (suc t) types e (y ∷ elements))) ≡ length types → length (type_places_from (2 + at) (in_document n t (x ∷ types) (suc e) elements)) ≡ length (x ∷ types)
        → length (type_places_from at (if b then of_type t ∷ in_document n (suc t) types e (y ∷ elements) else of_element e ∷ in_document n t (x ∷ types) (suc e) elements)) ≡ length (x ∷ types)
    by true h j = ap suc h
    by false h j = j

all_elements : (n t : ℕ) (types : List TypeDef) (e : ℕ) (elements : List ElementDecl) (at : ℕ) → length types + length elements < n → length (element_places_from at (in_document n t types e elements)) ≡ length elements
all_elements zero t types e elements at enough = absurd (omega (arith, enough))
all_elements (suc n) t [] e elements at enough = count_elements at e elements
all_elements (suc n) t (x ∷ types) e [] at enough = count_no_elements at t (x ∷ types)
all_elements (suc n) t (x ∷ types) e (y ∷ elements) at enough =
    let few : suc (length types) + suc (length elements) < suc n = enough in
    by (leb x.event y.event) (all_elements n (suc t) types e (y ∷ elements) (2 + at) (omega (arith, few))) (all_elements n t (x ∷ types) (suc e) elements (2 + at) (omega (arith, few)))
  where
    by : (b : Bool) → length (element_places_from (2 + at) (in_document n (suc t) types e (y ∷ elements))) ≡ length (y ∷ elements) → length (element_places_from (2 + at) (in_document n t (x ∷ types) (suc e) elements)) ≡ length elements
        → length (element_places_from at (if b then of_type t ∷ in_document n (suc t) types e (y ∷ elements) else of_element e ∷ in_document n t (x ∷ types) (suc e) elements)) ≡ length (y ∷ elements)
    by true h j = h
    by false h j = ap suc j

-- ---- of the parts of a schema
pub types_count : (p : Parts) (places : List ℕ) → places ≡ type_places_from 2 (items_of p) → length places ≡ length p.types
types_count p places is = ap (λ (l : List ℕ). length l) is ∙ all_types (suc (length p.types + length p.elements)) 0 p.types 0 p.elements 2 (omega arith)

pub elements_count : (p : Parts) (places : List ℕ) → places ≡ element_places_from 2 (items_of p) → length places ≡ length p.elements
elements_count p places is = ap (λ (l : List ℕ). length l) is ∙ all_elements (suc (length p.types + length p.elements)) 0 p.types 0 p.elements 2 (omega arith)

pub types_tell : (p : Parts) (places : List ℕ) → places ≡ type_places_from 2 (items_of p) → Tells 0 (type_grammar p) (length p.types) places
types_tell p places is = record {
  long = types_count p places is;
  at = λ place less.
      let all : length (type_places_from 2 (items_of p)) ≡ length p.types = types_count p (type_places_from 2 (items_of p)) refl in
      ap (λ (l : List ℕ). get_or l place 0) is
      ∙ type_at 2 0 place place (items_of p) (document_types (suc (length p.types + length p.elements)) 0 p.types 0 p.elements) (omega arith) (omega (arith, all, less));
}

-- the place of an element's own grammar
pub element_told_at : (p : Parts) (places : List ℕ) (place : ℕ) → places ≡ element_places_from 2 (items_of p) → place < length p.elements → get_or places place 0 ≡ grammar_from 2 (of_element place) (items_of p)
element_told_at p places place is less =
    let all : length (element_places_from 2 (items_of p)) ≡ length p.elements = elements_count p (element_places_from 2 (items_of p)) refl in
    ap (λ (l : List ℕ). get_or l place 0) is
    ∙ element_at 2 0 place place (items_of p) (document_elements (suc (length p.types + length p.elements)) 0 p.types 0 p.elements) (omega arith) (omega (arith, all, less))

-- that of the first that opens its grammar
pub opener_told : (p : Parts) (places : List ℕ) (place : ℕ) → places ≡ element_places_from 2 (items_of p) → place < length p.elements → get_or places (opener p place) 0 ≡ element_grammar p place
opener_told p places place is less = element_told_at p places (opener p place) is (opener_below p place less)

-- ---- for the loop
pub grammars_count : (old new : List ℕ) (place full : ℕ) → length old ≡ place → new ≡ old ++ full ∷ [] → length new ≡ place + 1
grammars_count old new place full count new_is = ap (λ (l : List ℕ). length l) new_is ∙ length_push old full ∙ ap (λ n. n + 1) count

pub grammars_next : (p : Parts) (places old new : List ℕ) (place first : ℕ) → places ≡ element_places_from 2 (items_of p) → place < length p.elements → first ≡ opener p place → new ≡ old ++ get_or places first 0 ∷ []
    → length old ≡ place → ((i : ℕ) → i < place → get_or old i 0 ≡ element_grammar p i) → (i : ℕ) → i < place + 1 → get_or new i 0 ≡ element_grammar p i
grammars_next p places old new place first is less first_is new_is count each i below =
    ap (λ l. get_or l i 0) new_is ∙ elim (cases_eq i place) [
      | inl e ↦ get_or_push old (get_or places first 0) 0 i (count ∙ sym e) ∙ ap (λ n. get_or places n 0) first_is ∙ opener_told p places place is less ∙ ap (element_grammar p) (sym e)
      | inr n ↦ get_or_append_left old (get_or places first 0 ∷ []) 0 i (omega (arith, count, n, below)) ∙ each i (omega (arith, n, below))
    ]

-- ---- they are not too large
full_small : (p : Parts) (place : ℕ) → length p.types + length p.elements ≤ 2 ^ 28 → IsFullBelow (2 + 2 * length (items_of p)) place → place + 1 < 2 ^ 32
full_small p place few full =
    let below : place + 1 < 2 + 2 * length (items_of p) = full.below in
    let items : length (items_of p) ≤ length p.types + length p.elements = items_few p in
    omega (arith, below, items, few)

past_small : (places : List ℕ) (count place : ℕ) → length places ≡ count → count ≤ place → get_or places place 0 + 1 < 2 ^ 32
past_small places count place long le =
    let none : get_or places place 0 ≡ 0 = get_or_past places place 0 (omega (arith, long, le)) in
    omega (arith, none)

pub types_small : (p : Parts) (places : List ℕ) → length p.types + length p.elements ≤ 2 ^ 28 → Tells 0 (type_grammar p) (length p.types) places → (place : ℕ) → get_or places place 0 + 1 < 2 ^ 32
types_small p places few tells place = elim (cases_lt place (length p.types)) [
  | inl less ↦
      let small : type_grammar p place + 1 < 2 ^ 32 = full_small p (type_grammar p place) few (type_full p place less) in
      let same : get_or places place 0 ≡ type_grammar p place = tells.at place less in
      omega (arith, small, same)
  | inr le ↦ past_small places (length p.types) place tells.long le
]

pub elements_small : (p : Parts) (grammars : List ℕ) → length p.types + length p.elements ≤ 2 ^ 28 → Tells 0 (element_grammar p) (length p.elements) grammars → (place : ℕ) → get_or grammars place 0 + 1 < 2 ^ 32
elements_small p grammars few tells place = elim (cases_lt place (length p.elements)) [
  | inl less ↦
      let small : element_grammar p place + 1 < 2 ^ 32 = full_small p (element_grammar p place) few (element_full p place less) in
      let same : get_or grammars place 0 ≡ element_grammar p place = tells.at place less in
      omega (arith, small, same)
  | inr le ↦ past_small grammars (length p.elements) place tells.long le
]
