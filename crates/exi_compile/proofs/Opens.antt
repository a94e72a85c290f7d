-- The grammars that elements open: those of a list, and behind it that of a fragment's elements.
use Rattle.std.proofs.Common.{◌≡◌, inl, inr, ℕ, zero, suc, ◌+◌, ◌*◌, ◌<◌, ◌≤◌, Bool, true, false, leb, if◌then◌else◌, Option, Some, None, List, [], ◌∷◌, length, map, get_or, refl, sym, ap, ◌∙◌, arith}
use Rattle.std.specs.Prelude.{◌==◌, slice_get}
use Rattle.std.proofs.lemmas.Bool.{cases_lt, ne_eqb, or_from, or_parts}
use Rattle.std.proofs.lemmas.List.{get_or_default, get_or_past}
use Rattle.std.proofs.lemmas.Option.{slice_get_past}
use Rattle.exi_gram.specs.Laws.{places_from}
use Rattle.exi_gram.specs.Terminals.{Rule, Rules}
use Rattle.xsd_model.specs.declared.parts.ElementDecl.{ElementDecl}
use Rattle.xsd_model.specs.declared.parts.TypeDef.{TypeDef}
use Rattle.xsd_model.specs.Parts.{Parts}
use Rattle.exi_elements.specs.StandIns.{opener}
use Rattle.exi_compiled.specs.Compiled.{Item, element_grammar, fragment_grammar, grammar_from, in_document, items_of, of_element, of_type, opened, opened_at, same_item}
use Rattle.exi_compiled.specs.Compiled as compiled
use Rattle.exi_compiled.proofs.Places.{is_item_among}
use Rattle.exi_compile.specs.Opening.{opened_by, opened_inner, opened_rule}
use Rattle.exi_compile.specs.Tables.{Tells}

-- ---- an element that is not there is not among the items
from_past : (place : ℕ) (item : Item) (is : List Item) → is_item_among item is ≡ false → grammar_from place item is ≡ place + 2 * length is
from_past place item [] none = let same : place ≡ place + 2 * 0 = omega arith in same
from_past place item (i ∷ is) none =
    let parts = or_parts (same_item item i) (is_item_among item is) none in
    let step : grammar_from place item (i ∷ is) ≡ grammar_from (2 + place) item is = ap (λ b. if b then place else grammar_from (2 + place) item is) parts.0 in
    let rest : grammar_from (2 + place) item is ≡ (2 + place) + 2 * length is = from_past (2 + place) item is parts.1 in
    let same : (2 + place) + 2 * length is ≡ place + 2 * length (i ∷ is) = omega arith in
    step ∙ rest ∙ same

not_same : (k e : ℕ) → suc e ≤ k → (k == e) ≡ false
not_same k e less = ne_eqb k e (λ same. omega arith)

elements_before : {X : Type 0} (e : ℕ) (xs : List X) (k : ℕ) → e + length xs ≤ k → is_item_among (of_element k) (map of_element (places_from e xs)) ≡ false
elements_before e [] k past = refl
elements_before e (x ∷ xs) k past =
    let here : suc e ≤ k = omega arith in
    let rest : suc e + length xs ≤ k = omega arith in
    or_from (k == e) (is_item_among (of_element k) (map of_element (places_from (suc e) xs))) (not_same k e here) (elements_before (suc e) xs k rest)

no_types : {X : Type 0} (t : ℕ) (xs : List X) (k : ℕ) → is_item_among (of_element k) (map of_type (places_from t xs)) ≡ false
no_types t [] k = refl
no_types t (x ∷ xs) k = no_types (suc t) xs k

document_before : (n t : ℕ) (types : List TypeDef) (e : ℕ) (elements : List ElementDecl) (k : ℕ) → e + length elements ≤ k → is_item_among (of_element k) (in_document n t types e elements) ≡ false
document_before zero t types e elements k past = refl
document_before (suc n) t [] e elements k past = elements_before e elements k past
document_before (suc n) t (x ∷ types) e [] k past = no_types t (x ∷ types) k
document_before (suc n) t (x ∷ types) e (y ∷ elements) k past =
    let here : suc e ≤ k = omega arith in
    let rest : suc e + length elements ≤ k = omega arith in
    by (leb x.event y.event) here
    (document_before n (suc t) types e (y ∷ elements) k past)
    (document_before n t (x ∷ types) (suc e) elements k rest)
  where
    by : (b : Bool) → suc e ≤ k → is_item_among (of_element k) (in_document n (suc t) types e (y ∷ elements)) ≡ false → is_item_among (of_element k) (in_document n t (x ∷ types) (suc e) elements) ≡ false
        → is_item_among (of_element k) (if b then of_type t ∷ in_document n (suc t) types e (y ∷ elements) else of_element e ∷ in_document n t (x ∷ types) (suc e) elements) ≡ false
    by true here h j = h
    by false here h j = or_from (k == e) (is_item_among (of_element k) (in_document n t (x ∷ types) (suc e) elements)) (not_same k e here) j

pub grammar_past : (p : Parts) (place : ℕ) → length p.elements ≤ place → element_grammar p place ≡ fragment_grammar p
grammar_past p place past =
    let none : slice_get p.elements place ≡ None = slice_get_past p.elements place past in
    let own : opener p place ≡ place = rw none refl in
    let behind : 0 + length p.elements ≤ place = omega arith in
    ap (λ k. grammar_from 2 (of_element k) (items_of p)) own
    ∙ from_past 2 (of_element place) (items_of p) (document_before (suc (length p.types + length p.elements)) 0 p.types 0 p.elements place behind)

-- ---- so the list tells what each element opens
module _ (p : Parts) (grammars : List ℕ) (otherwise : ℕ) (tells : Tells 0 (element_grammar p) (length p.elements) grammars) (last : otherwise ≡ fragment_grammar p) where
  at_element : (element : ℕ) → get_or grammars element otherwise ≡ element_grammar p element
  at_element element = elim (cases_lt element (length p.elements)) [
    | inl less ↦
        let within : element < length grammars = omega (arith, tells.long) in
        get_or_default grammars element otherwise 0 within ∙ tells.at element less
    | inr past ↦
        let behind : length grammars ≤ element = omega (arith, tells.long) in
        get_or_past grammars element otherwise behind ∙ last ∙ sym (grammar_past p element past)
  ]

  inner_same : (inner : Option ℕ) → opened_inner grammars otherwise inner ≡ opened_at p inner
  inner_same None = refl
  inner_same (Some element) = ap (λ k. Some k) (at_element element)

  rule_same : (r : Rule) → opened_rule grammars otherwise r ≡ compiled.opened_rule p r
  rule_same r = ap (λ i. record { on = r.on; to = r.to; inner = i }) (inner_same r.inner)

  state_same : (rs : List Rule) → map (opened_rule grammars otherwise) rs ≡ map (compiled.opened_rule p) rs
  state_same [] = refl
  state_same (r ∷ rs) = (λ j. rule_same r j ∷ state_same rs j)

  states_same : (ss : List (List Rule)) → map (map (opened_rule grammars otherwise)) ss ≡ map (map (compiled.opened_rule p)) ss
  states_same [] = refl
  states_same (s ∷ ss) = (λ j. state_same s j ∷ states_same ss j)

  pub opened_same : (g : Rules) → opened_by grammars otherwise g ≡ opened p g
  opened_same g = ap (λ ss. record { states = ss; content = g.content }) (states_same g.states)
