-- The items of a document one after another.
use Rattle.std.proofs.Common.{◌≡◌, ℕ, suc, ◌+◌, ◌*◌, List, [], ◌∷◌, ◌++◌, drop, map, sym, ap, ◌∙◌, append_assoc, arith}
use Rattle.std.proofs.lemmas.List.{map_push}
use Rattle.xsd_model.specs.declared.parts.ElementDecl.{ElementDecl}
use Rattle.xsd_model.specs.declared.parts.TypeDef.{TypeDef}
use Rattle.exi_compiled.specs.Compiled as compiled
use Rattle.exi_compile.specs.declared.order.Item.{Item}
use Rattle.exi_compile.specs.declared.order.Item.TheVariants as variant
use Rattle.exi_compile.specs.Order.{IsNext, element_places_from, item, type_places_from}

-- ---- all of them, so far and what is left
abbrev pub document_on : List Item → ℕ → List TypeDef → ℕ → List ElementDecl → ℕ → List compiled.Item
document_on items n types of elements element = map item items ++ compiled.in_document n of (drop of types) element (drop element elements)

with_last : (items : List Item) (next : Item) (rest : List compiled.Item) → map item (items ++ next ∷ []) ++ rest ≡ map item items ++ item next ∷ rest
with_last items next rest = ap (λ l. l ++ rest) (map_push item items next) ∙ append_assoc (map item items) (item next ∷ []) rest

pub type_next : (items : List Item) (next place n : ℕ) (types : List TypeDef) (of next_of : ℕ) (elements : List ElementDecl) (element : ℕ) (all : List compiled.Item) → suc (suc n) ≡ next
    → IsNext types elements of element (variant.Type place) → next_of ≡ of + 1 → document_on items next types of elements element ≡ all
    → document_on (items ++ variant.Type place ∷ []) (suc n) types next_of elements element ≡ all
type_next items next place n types of next_of elements element all count is after so_far =
    let up : next_of ≡ suc of = omega (arith, after) in
    ap (λ i. document_on (items ++ variant.Type place ∷ []) (suc n) types i elements element) up
    ∙ with_last items (variant.Type place) (compiled.in_document (suc n) (suc of) (drop (suc of) types) element (drop element elements))
    ∙ ap (λ i. map item items ++ compiled.of_type i ∷ compiled.in_document (suc n) (suc of) (drop (suc of) types) element (drop element elements)) is.placed
    ∙ ap (λ l. map item items ++ l) (sym (is.front n))
    ∙ ap (λ m. document_on items m types of elements element) count
    ∙ so_far

pub element_next : (items : List Item) (next place n : ℕ) (types : List TypeDef) (of : ℕ) (elements : List ElementDecl) (element next_element : ℕ) (all : List compiled.Item) → suc (suc n) ≡ next
    → IsNext types elements of element (variant.Element place) → next_element ≡ element + 1 → document_on items next types of elements element ≡ all
    → document_on (items ++ variant.Element place ∷ []) (suc n) types of elements next_element ≡ all
element_next items next place n types of elements element next_element all count is after so_far =
    let up : next_element ≡ suc element = omega (arith, after) in
    ap (λ i. document_on (items ++ variant.Element place ∷ []) (suc n) types of elements i) up
    ∙ with_last items (variant.Element place) (compiled.in_document (suc n) of (drop of types) (suc element) (drop (suc element) elements))
    ∙ ap (λ i. map item items ++ compiled.of_element i ∷ compiled.in_document (suc n) of (drop of types) (suc element) (drop (suc element) elements)) is.placed
    ∙ ap (λ l. map item items ++ l) (sym (is.front n))
    ∙ ap (λ m. document_on items m types of elements element) count
    ∙ so_far

-- ---- the places of grammars, so far and of the items that are left
abbrev pub types_on : List ℕ → ℕ → List Item → List ℕ
types_on places i items = places ++ type_places_from (2 + 2 * i) (map item (drop i items))

abbrev pub elements_on : List ℕ → ℕ → List Item → List ℕ
elements_on places i items = places ++ element_places_from (2 + 2 * i) (map item (drop i items))
