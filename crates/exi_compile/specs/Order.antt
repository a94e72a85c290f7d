-- Types and elements in the order of the document, as a compiler goes through them.
use Rattle.std.specs.Prelude.{◌≡◌, ℕ, suc, ◌+◌, ◌≤◌, List, [], ◌∷◌, drop, length}
use Rattle.xsd_model.specs.declared.parts.ElementDecl.{ElementDecl}
use Rattle.xsd_model.specs.declared.parts.TypeDef.{TypeDef}
use Rattle.exi_compiled.specs.Compiled as compiled
use Rattle.exi_compile.specs.declared.order.Item.{Item}
use Rattle.exi_compile.specs.declared.order.Item.TheVariants as variant

abbrev pub item : Item → compiled.Item
item (variant.Type place) = compiled.of_type place
item (variant.Element place) = compiled.of_element place

-- the item that comes next, from a type and an element on: with two steps left it is the front, and one step less is left
abbrev pub in_front : List TypeDef → List ElementDecl → ℕ → ℕ → Item → ℕ → List compiled.Item
in_front types elements of element (variant.Type place) n = compiled.of_type of ∷ compiled.in_document n (suc of) (drop (suc of) types) element (drop element elements)
in_front types elements of element (variant.Element place) n = compiled.of_element element ∷ compiled.in_document n of (drop of types) (suc element) (drop (suc element) elements)

abbrev pub IsPlaced : ℕ → ℕ → Item → Type 0
IsPlaced of element (variant.Type place) = place ≡ of
IsPlaced of element (variant.Element place) = place ≡ element

-- it is one of these
abbrev pub IsThere : ℕ → ℕ → ℕ → ℕ → Item → Type 0
IsThere types elements of element (variant.Type place) = suc of ≤ types
IsThere types elements of element (variant.Element place) = suc element ≤ elements

pub record IsNext (types : List TypeDef) (elements : List ElementDecl) (of : ℕ) (element : ℕ) (next : Item) : Type 0 where
  pub front : (n : ℕ) → compiled.in_document (suc (suc n)) of (drop of types) element (drop element elements) ≡ in_front types elements of element next (suc n)
  pub placed : IsPlaced of element next
  pub there : IsThere (length types) (length elements) of element next

-- where the grammars of the types among some items stand, and of the elements, where the first item's stands at a place
abbrev pub type_places_from : ℕ → List compiled.Item → List ℕ
type_places_from at [] = []
type_places_from at (compiled.of_type place ∷ items) = at ∷ type_places_from (2 + at) items
type_places_from at (compiled.of_element place ∷ items) = type_places_from (2 + at) items

abbrev pub element_places_from : ℕ → List compiled.Item → List ℕ
element_places_from at [] = []
element_places_from at (compiled.of_type place ∷ items) = element_places_from (2 + at) items
element_places_from at (compiled.of_element place ∷ items) = at ∷ element_places_from (2 + at) items
