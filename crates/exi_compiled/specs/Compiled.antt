-- A schema by its grammars: what its components become (EXI 1.0, section 8.5), or the first type or element at which they
-- do not.
use Rattle.std.specs.Prelude.{ℕ, zero, suc, ◌+◌, ◌-◌, ◌*◌, ◌==◌, ◌&&◌, ◌||◌, leb, Bool, true, false, Option, Some, None, Result, Ok, Err, List, [], ◌∷◌, ◌++◌, length, map, slice_get, if◌then◌else◌}
use Rattle.std.specs.List.{flat_map}
use Rattle.exi_names.specs.Datatypes.{Representation}
use Rattle.exi_names.specs.declared.names.QName.{QName}
use Rattle.exi_gram.specs.declared.entry.ElementEntry.{ElementEntry}
use Rattle.exi_gram.specs.declared.entry.TypeEntry.{TypeEntry}
use Rattle.exi_gram.specs.Laws.{places_from}
use Rattle.exi_gram.specs.Orders.{in_order}
use Rattle.exi_gram.specs.Outlines.{Outline}
use Rattle.exi_gram.specs.Terminals.{Rule, Rules, xsi_nil, xsi_type}
use Rattle.exi_gram.specs.Wholes.{document, fragment, plain, whole_grammar}
use Rattle.xsd_model.specs.declared.fault.SchemaFault.{SchemaFault}
use Rattle.xsd_model.specs.declared.fault.SchemaKind.{SchemaKind}
use Rattle.xsd_model.specs.declared.fault.SchemaKind.TheVariants as kind
use Rattle.xsd_model.specs.declared.parts.AttributeDecl.{AttributeDecl}
use Rattle.xsd_model.specs.declared.parts.ElementDecl.{ElementDecl}
use Rattle.xsd_model.specs.declared.parts.TypeBody.{TypeBody}
use Rattle.xsd_model.specs.declared.parts.TypeBody.TheVariants as body
use Rattle.xsd_model.specs.declared.parts.TypeDef.{TypeDef}
use Rattle.xsd_model.specs.Parts.{Parts, bases_at}
use Rattle.exi_counts.specs.Counts.{most_states, type_states}
use Rattle.exi_elements.specs.StandIns.{any_of, element_before, opener}
use Rattle.exi_normal.specs.Normals.{Refusal, differ, normal_of, too_large}
use Rattle.exi_proto.specs.Protos.{draft_of_type, representation_of}
use Rattle.exi_compiled.specs.FragmentGrammar.{element_fragment, empty_fragment, fragment_elements}
use Rattle.exi_vocabulary.specs.FirstNames.{first_names_of}
use Rattle.exi_vocabulary.specs.Vocabulary.{global_places_from}

-- ---- types and elements in the order of the document, the built-in types in front
pub data Item : Type 0 where
  of_type : ℕ → Item
  of_element : ℕ → Item

abbrev pub in_document : ℕ → ℕ → List TypeDef → ℕ → List ElementDecl → List Item
in_document zero t types e elements = []
in_document (suc n) t [] e elements = map of_element (places_from e elements)
in_document (suc n) t (x ∷ types) e [] = map of_type (places_from t (x ∷ types))
in_document (suc n) t (x ∷ types) e (y ∷ elements) =
    if leb x.event y.event then of_type t ∷ in_document n (suc t) types e (y ∷ elements) else
    of_element e ∷ in_document n t (x ∷ types) (suc e) elements

abbrev pub items_of : Parts → List Item
items_of p = in_document (suc (length p.types + length p.elements)) 0 p.types 0 p.elements

-- ---- where the grammars stand: behind Document and Fragment a grammar and its empty form for each of them
abbrev pub same_item : Item → Item → Bool
same_item (of_type a) (of_type b) = a == b
same_item (of_element a) (of_element b) = a == b
same_item a b = false

abbrev pub grammar_from : ℕ → Item → List Item → ℕ
grammar_from place item [] = place
grammar_from place item (i ∷ is) = if same_item item i then place else grammar_from (2 + place) item is

abbrev pub type_grammar : Parts → ℕ → ℕ
type_grammar p place = grammar_from 2 (of_type place) (items_of p)

-- elements that open one grammar open that of the first of them
abbrev pub element_grammar : Parts → ℕ → ℕ
element_grammar p place = grammar_from 2 (of_element (opener p place)) (items_of p)

-- ---- the type of each, and what may stand at its start
abbrev pub element_at : Parts → ℕ → (ElementDecl → ℕ) → ℕ
element_at p place field = of_declaration (slice_get p.elements place)
  where
    of_declaration : Option ElementDecl → ℕ
    of_declaration None = 0
    of_declaration (Some e) = field e

abbrev pub type_event : Parts → ℕ → ℕ
type_event p place = of_definition (slice_get p.types place)
  where
    of_definition : Option TypeDef → ℕ
    of_definition None = 0
    of_definition (Some t) = t.event

abbrev pub item_type : Parts → Item → ℕ
item_type p (of_type place) = place
item_type p (of_element place) = element_at p place (λ e. e.of)

abbrev pub item_event : Parts → Item → ℕ
item_event p (of_type place) = type_event p place
item_event p (of_element place) = element_at p place (λ e. e.event)

-- whether a type leads by its bases to another, so many steps up
abbrev pub derives_within : ℕ → Parts → ℕ → ℕ → Bool
derives_within zero p base place = false
derives_within (suc n) p base place = any_of (λ up. up == base || derives_within n p base up) (bases_at p place)

abbrev pub has_name : TypeDef → Bool
has_name t = is_some_name t.name
  where
    is_some_name : Option QName → Bool
    is_some_name None = false
    is_some_name (Some name) = true

abbrev pub named_sub_type_from : Parts → ℕ → ℕ → List TypeDef → Bool
named_sub_type_from p base place [] = false
named_sub_type_from p base place (t ∷ ts) = (has_name t && derives_within (suc (length p.types)) p base place) || named_sub_type_from p base (suc place) ts

abbrev pub is_union : TypeDef → Bool
is_union t = by_body t.body
  where
    by_body : TypeBody → Bool
    by_body (body.Simple form union) = union
    by_body (body.Complex complex) = false
    by_body body.Ur = false

abbrev pub union_at : Parts → ℕ → Bool
union_at p place = of_definition (slice_get p.types place)
  where
    of_definition : Option TypeDef → Bool
    of_definition None = false
    of_definition (Some t) = is_union t

-- xsi:type can name another type in the place of this one: it has named sub-types, or is a union
abbrev pub can_be_cast : Parts → ℕ → Bool
can_be_cast p place = named_sub_type_from p place 0 p.types || union_at p place

abbrev pub nillable_at : Parts → ℕ → Bool
nillable_at p place = of_declaration (slice_get p.elements place)
  where
    of_declaration : Option ElementDecl → Bool
    of_declaration None = false
    of_declaration (Some e) = e.nillable

abbrev pub is_nillable : Parts → Item → Bool
is_nillable p (of_type place) = false
is_nillable p (of_element place) = nillable_at p place

-- last in the start state of the grammar, where it is kept to strictly: xsi:type and xsi:nil
abbrev pub instance_rules : Bool → Bool → List Rule
instance_rules cast nillable = (if cast then plain xsi_type 0 ∷ [] else []) ++ (if nillable then plain xsi_nil 0 ∷ [] else [])

abbrev pub with_instance : List Rule → Rules → Rules
with_instance rules g = record { states = in_first g.states; content = g.content }
  where
    in_first : List (List Rule) → List (List Rule)
    in_first [] = []
    in_first (state ∷ states) = (state ++ rules) ∷ states

-- ---- the grammars that elements open, by their places
abbrev pub opened_at : Parts → Option ℕ → Option ℕ
opened_at p None = None
opened_at p (Some element) = Some (element_grammar p element)

abbrev pub opened_rule : Parts → Rule → Rule
opened_rule p r = record { on = r.on; to = r.to; inner = opened_at p r.inner }

abbrev pub opened : Parts → Rules → Rules
opened p g = record { states = map (map (opened_rule p)) g.states; content = g.content }

-- ---- one after another, the states of all summed
pub record Made : Type 0 where
  pub total : ℕ
  -- the grammars, each before its empty form
  pub grammars : List Rules

abbrev pub fault_at : SchemaKind → ℕ → SchemaFault
fault_at kind event = record { kind = kind; event = event }

abbrev pub refused : Refusal → ℕ → SchemaFault
refused too_large event = fault_at kind.TooLarge event
refused differ event = fault_at kind.TypesDiffer event

-- the empty form is made first, so that too many states of both together come before elements that differ
abbrev pub with_full : Parts → Item → Made → Rules → Result Rules Refusal → Result Made SchemaFault
with_full p item made empty (Err why) = Err (refused why (item_event p item))
with_full p item made empty (Ok full) = Ok (record {
  total = made.total + (length full.states + length empty.states);
  grammars = made.grammars ++ with_instance (instance_rules (can_be_cast p (item_type p item)) (is_nillable p item)) (opened p full) ∷ opened p empty ∷ [];
})

abbrev pub with_empty : Parts → Item → Made → Result Rules Refusal → Result Made SchemaFault
with_empty p item made (Err why) = Err (refused why (item_event p item))
with_empty p item made (Ok empty) = with_full p item made empty (normal_of (draft_of_type p (item_type p item) false) (most_states - (made.total + length empty.states)))

-- before it is normal each may have so many states as all may have together
abbrev pub is_small : Parts → ℕ → Bool
is_small p of = leb (type_states p of false) most_states && leb (type_states p of true) most_states

abbrev pub with_item : Parts → Item → Made → Result Made SchemaFault
with_item p item made =
    if is_small p (item_type p item) then with_empty p item made (normal_of (draft_of_type p (item_type p item) true) (most_states - made.total)) else
    Err (fault_at kind.TooLarge (item_event p item))

abbrev pub and_then : Result Made SchemaFault → (Made → Result Made SchemaFault) → Result Made SchemaFault
and_then (Err fault) next = Err fault
and_then (Ok made) next = next made

abbrev pub with_items : Parts → List Item → Made → Result Made SchemaFault
with_items p [] made = Ok made
with_items p (i ∷ is) made = and_then (with_item p i made) (λ m. with_items p is m)

-- ---- a fragment's elements whose declarations differ open one grammar more, where an element is declared
abbrev pub fragment_grammar : Parts → ℕ
fragment_grammar p = 2 + 2 * length (items_of p)

abbrev pub elements_of : Parts → List (QName × ℕ)
elements_of p = fragment_elements p (element_grammar p) (fragment_grammar p)

abbrev pub with_fragment : Parts → List ElementDecl → Made → Result Made SchemaFault
with_fragment p [] made = Ok made
with_fragment p (e ∷ es) made =
    if leb (made.total + 4) most_states then Ok (record {
      total = made.total + 4;
      grammars = made.grammars ++ with_instance (instance_rules true true) (element_fragment p (elements_of p)) ∷ empty_fragment p ∷ [];
    }) else Err (fault_at kind.TooLarge e.event)

abbrev pub all_made : Parts → Result Made SchemaFault
all_made p = and_then (with_items p (items_of p) (record { total = 0; grammars = [] })) (with_fragment p p.elements)

-- ---- the entries
abbrev pub type_entries_from : Parts → ℕ → List TypeDef → List TypeEntry
type_entries_from p place [] = []
type_entries_from p place (t ∷ ts) = record {
  name = t.name;
  full = type_grammar p place;
  empty = type_grammar p place + 1;
  cast = can_be_cast p place;
} ∷ type_entries_from p (suc place) ts

abbrev pub element_entry : Parts → ℕ → List ElementEntry
element_entry p place = of_declaration (slice_get p.elements place)
  where
    of_declaration : Option ElementDecl → List ElementEntry
    of_declaration None = []
    of_declaration (Some e) = record {
      name = e.name;
      full = element_grammar p place;
      empty = element_grammar p place + 1;
      nillable = e.nillable;
    } ∷ []

abbrev pub global_entries : Parts → List ElementEntry
global_entries p = flat_map (element_entry p) (in_order (element_before p) (global_places_from 0 p.elements))

abbrev pub attribute_entries : Parts → List AttributeDecl → List (QName × Representation)
attribute_entries p [] = []
attribute_entries p (a ∷ as_) = if a.global then (a.name, representation_of p a.of) ∷ attribute_entries p as_ else attribute_entries p as_

-- ---- the schema
abbrev pub outline_of : Parts → Made → Outline
outline_of p made = record {
  known = true;
  grammars = whole_grammar (document (map (λ e. (e.name, e.full)) (global_entries p))) ∷ whole_grammar (fragment (elements_of p)) ∷ made.grammars;
  globals = global_entries p;
  fragment = elements_of p;
  attributes = attribute_entries p p.attributes;
  types = type_entries_from p 0 p.types;
  names = first_names_of p;
}

abbrev pub outlined : Parts → Result Made SchemaFault → Result Outline SchemaFault
outlined p (Err fault) = Err fault
outlined p (Ok made) = Ok (outline_of p made)

abbrev pub compiled : Parts → Result Outline SchemaFault
compiled p = outlined p (all_made p)
