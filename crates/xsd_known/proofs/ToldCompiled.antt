-- What components become does not hang on where it lies how the values of their types are represented.
use Rattle.std.proofs.Common.{◌≡◌, ◌+◌, ◌*◌, ◌-◌, ◌==◌, ◌&&◌, ◌||◌, leb, ℕ, zero, suc, Bool, true, false, List, [], ◌∷◌, ◌++◌, length, map, flat_map, slice_get, if◌then◌else◌, Option, Some, None, Result, Ok, Err, refl, ap, ◌∙◌}
use Rattle.exi_names.specs.Datatypes.{Representation, text}
use Rattle.exi_names.specs.declared.names.QName.{QName}
use Rattle.exi_gram.specs.declared.entry.ElementEntry.{ElementEntry}
use Rattle.exi_gram.specs.Laws.{places_from}
use Rattle.exi_gram.specs.Orders.{in_order}
use Rattle.exi_gram.specs.Terminals.{Rule, Rules, at, at_any, ee}
use Rattle.exi_gram.specs.Wholes.{document, fragment, plain, whole_grammar}
use Rattle.xsd_model.specs.declared.fault.SchemaFault.{SchemaFault}
use Rattle.xsd_model.specs.declared.fault.SchemaKind.TheVariants as kind
use Rattle.xsd_model.specs.declared.parts.AttributeDecl.{AttributeDecl}
use Rattle.xsd_model.specs.declared.parts.ElementDecl.{ElementDecl}
use Rattle.xsd_model.specs.declared.parts.TypeDef.{TypeDef}
use Rattle.xsd_model.specs.Parts.{Parts}
use Rattle.exi_counts.specs.Counts.{most_states}
use Rattle.exi_elements.specs.StandIns.{any_of, element_before, opener}
use Rattle.exi_normal.specs.Normals.{Refusal, normal_of}
use Rattle.exi_proto.specs.Protos.{draft_of_type}
use Rattle.exi_vocabulary.specs.Vocabulary.{all_of_type, attribute_name, global_places_from, names_in_order}
use Rattle.exi_compiled.specs.FragmentGrammar.{attribute_rules, element_fragment, empty_fragment, fragment_content, fragment_elements}
use Rattle.exi_compiled.specs.Compiled.{Item, Made, all_made, and_then, attribute_entries, can_be_cast, compiled, derives_within, element_grammar, elements_of, fault_at, fragment_grammar, global_entries, grammar_from, has_name, in_document, instance_rules, is_nillable, is_small, is_union, item_event, item_type, items_of, named_sub_type_from, of_element, of_type, opened, outline_of, outlined, refused, type_entries_from, type_grammar, union_at, with_empty, with_fragment, with_full, with_instance, with_item, with_items}
use Rattle.xsd_known.proofs.Told.{same_bases, same_count, same_in_type, told, told_types}
use Rattle.xsd_known.proofs.ToldCounts.{same_type_states}
use Rattle.xsd_known.proofs.ToldNames.{same_first_names}
use Rattle.xsd_known.proofs.ToldProtos.{same_draft, same_representation}

-- ---- items
pub same_places : (fs : List Representation) (n place : ℕ) (ts : List TypeDef) → places_from place (told_types fs n ts) ≡ places_from place ts
same_places fs n place [] = refl
same_places fs n place (t ∷ ts) = λ i. place ∷ same_places fs (suc n) (suc place) ts i

pub same_document : (fs : List Representation) (n k t : ℕ) (ts : List TypeDef) (e : ℕ) (es : List ElementDecl) → in_document n t (told_types fs k ts) e es ≡ in_document n t ts e es
same_document fs zero k t ts e es = refl
same_document fs (suc n) k t [] e es = refl
same_document fs (suc n) k t (x ∷ ts) e [] = λ i. map of_type (same_places fs k t (x ∷ ts) i)
same_document fs (suc n) k t (x ∷ ts) e (y ∷ es) = λ i.
    if leb x.event y.event then of_type t ∷ same_document fs n (suc k) (suc t) ts e (y ∷ es) i else
    of_element e ∷ same_document fs n k t (x ∷ ts) (suc e) es i

-- ---- what is looked at
abbrev pub event_seen : Option TypeDef → ℕ
event_seen None = 0
event_seen (Some t) = t.event

abbrev pub union_seen : Option TypeDef → Bool
union_seen None = false
union_seen (Some t) = is_union t

abbrev pub rule_seen : Parts → (ℕ → Representation) → Option AttributeDecl → List Rule
rule_seen p representation None = []
rule_seen p representation (Some a) = plain (at a.name (if all_of_type a p.attributes then representation a.of else text)) 0 ∷ []

abbrev pub entry_seen : (ℕ → ℕ) → ℕ → Option ElementDecl → List ElementEntry
entry_seen grammar place None = []
entry_seen grammar place (Some e) = record { name = e.name; full = grammar place; empty = grammar place + 1; nillable = e.nillable } ∷ []

abbrev pub opened_by : (ℕ → ℕ) → Option ℕ → Option ℕ
opened_by grammar None = None
opened_by grammar (Some element) = Some (grammar element)

abbrev pub opened_rule_by : (ℕ → ℕ) → Rule → Rule
opened_rule_by grammar r = record { on = r.on; to = r.to; inner = opened_by grammar r.inner }

module _ (p : Parts) where
  pub same_items : items_of (told p) ≡ items_of p
  same_items = ap (λ c. in_document (suc (c + length p.elements)) 0 (told p).types 0 p.elements) (same_count p) ∙ same_document p.forms (suc (length p.types + length p.elements)) 0 0 p.types 0 p.elements

  -- ---- places
  pub same_type_grammar : type_grammar (told p) ≡ type_grammar p
  same_type_grammar = λ i place. grammar_from 2 (of_type place) (same_items i)

  pub same_element_grammar : element_grammar (told p) ≡ element_grammar p
  same_element_grammar = λ i place. grammar_from 2 (of_element (opener p place)) (same_items i)

  -- ---- what is read of an item
  pub same_item_type : (item : Item) → item_type (told p) item ≡ item_type p item
  same_item_type (of_type place) = refl
  same_item_type (of_element place) = refl

  pub same_item_event : (item : Item) → item_event (told p) item ≡ item_event p item
  same_item_event (of_type place) = same_in_type p event_seen (λ n m union t. refl) place
  same_item_event (of_element place) = refl

  pub same_nillable : (item : Item) → is_nillable (told p) item ≡ is_nillable p item
  same_nillable (of_type place) = refl
  same_nillable (of_element place) = refl

  -- ---- casts
  pub same_derives_within : (n : ℕ) → derives_within n (told p) ≡ derives_within n p
  same_derives_within zero = refl
  same_derives_within (suc n) = λ i base place. any_of (λ up. up == base || same_derives_within n i base up) (same_bases p i place)

  pub same_derives : derives_within (suc (length (told p).types)) (told p) ≡ derives_within (suc (length p.types)) p
  same_derives = λ i. same_derives_within (suc (same_count p i)) i

  pub same_named_from : (base k place : ℕ) (ts : List TypeDef) → named_sub_type_from (told p) base place (told_types p.forms k ts) ≡ named_sub_type_from p base place ts
  same_named_from base k place [] = refl
  same_named_from base k place (t ∷ ts) = λ i. (has_name t && same_derives i base place) || same_named_from base (suc k) (suc place) ts i

  pub same_union : union_at (told p) ≡ union_at p
  same_union = λ i place. same_in_type p union_seen (λ n m union t. refl) place i

  pub same_cast : can_be_cast (told p) ≡ can_be_cast p
  same_cast = λ i place. same_named_from place 0 0 p.types i || same_union i place

  -- ---- grammars
  pub same_opened : opened (told p) ≡ opened p
  same_opened = λ i g. record { states = map (map (opened_rule_by (same_element_grammar i))) g.states; content = g.content }

  pub same_full : (item : Item) (made : Made) (empty : Rules) (r : Result Rules Refusal) → with_full (told p) item made empty r ≡ with_full p item made empty r
  same_full item made empty (Err why) = λ i. Err (refused why (same_item_event item i))
  same_full item made empty (Ok full) = λ i. Ok (record {
    total = made.total + (length full.states + length empty.states);
    grammars = made.grammars ++ with_instance (instance_rules (same_cast i (same_item_type item i)) (same_nillable item i)) (same_opened i full) ∷ same_opened i empty ∷ [];
  })

  pub same_item_draft : (item : Item) (empty : Bool) → draft_of_type (told p) (item_type (told p) item) empty ≡ draft_of_type p (item_type p item) empty
  same_item_draft item empty = λ i. same_draft p (same_item_type item i) empty i

  pub same_empty : (item : Item) (made : Made) (r : Result Rules Refusal) → with_empty (told p) item made r ≡ with_empty p item made r
  same_empty item made (Err why) = λ i. Err (refused why (same_item_event item i))
  same_empty item made (Ok empty) = λ i. same_full item made empty (normal_of (same_item_draft item false i) (most_states - (made.total + length empty.states))) i

  pub same_small : (place : ℕ) → is_small (told p) place ≡ is_small p place
  same_small place = λ i. leb (same_type_states p place false i) most_states && leb (same_type_states p place true i) most_states

  pub same_with_item : (item : Item) (made : Made) → with_item (told p) item made ≡ with_item p item made
  same_with_item item made = λ i.
      if same_small (same_item_type item i) i then same_empty item made (normal_of (same_item_draft item true i) (most_states - made.total)) i else
      Err (fault_at kind.TooLarge (same_item_event item i))

  pub same_with_items : (items : List Item) (made : Made) → with_items (told p) items made ≡ with_items p items made
  same_with_items [] made = refl
  same_with_items (item ∷ items) made = λ i. and_then (same_with_item item made i) (λ m. same_with_items items m i)

  -- ---- fragments
  pub same_fragment_grammar : fragment_grammar (told p) ≡ fragment_grammar p
  same_fragment_grammar = λ i. 2 + 2 * length (same_items i)

  pub same_elements : elements_of (told p) ≡ elements_of p
  same_elements = λ i. fragment_elements p (same_element_grammar i) (same_fragment_grammar i)

  pub same_attribute_rules : attribute_rules (told p) ≡ attribute_rules p
  same_attribute_rules = λ i. flat_map (λ place. rule_seen p (same_representation p i) (slice_get p.attributes place)) (names_in_order (map attribute_name p.attributes))

  pub same_element_fragment : (elements : List (QName × ℕ)) → element_fragment (told p) elements ≡ element_fragment p elements
  same_element_fragment elements = λ i. record {
    states = (same_attribute_rules i ++ plain at_any 0 ∷ fragment_content 0 elements) ∷ fragment_content 1 elements ∷ [];
    content = 1;
  }

  pub same_empty_fragment : empty_fragment (told p) ≡ empty_fragment p
  same_empty_fragment = λ i. record {
    states = (same_attribute_rules i ++ plain at_any 0 ∷ plain ee 0 ∷ []) ∷ (plain ee 1 ∷ []) ∷ [];
    content = 1;
  }

  pub same_fragment : (es : List ElementDecl) (made : Made) → with_fragment (told p) es made ≡ with_fragment p es made
  same_fragment [] made = refl
  same_fragment (e ∷ es) made = λ i.
      if leb (made.total + 4) most_states then Ok (record {
        total = made.total + 4;
        grammars = made.grammars ++ with_instance (instance_rules true true) (same_element_fragment (same_elements i) i) ∷ same_empty_fragment i ∷ [];
      }) else Err (fault_at kind.TooLarge e.event)

  pub same_made : all_made (told p) ≡ all_made p
  same_made = λ i. and_then (same_with_items (same_items i) (record { total = 0; grammars = [] }) i) (λ made. same_fragment p.elements made i)

  -- ---- entries
  pub same_type_entries : (k place : ℕ) (ts : List TypeDef) → type_entries_from (told p) place (told_types p.forms k ts) ≡ type_entries_from p place ts
  same_type_entries k place [] = refl
  same_type_entries k place (t ∷ ts) = λ i. record {
    name = t.name;
    full = same_type_grammar i place;
    empty = same_type_grammar i place + 1;
    cast = same_cast i place;
  } ∷ same_type_entries (suc k) (suc place) ts i

  pub same_globals : global_entries (told p) ≡ global_entries p
  same_globals = λ i. flat_map (λ place. entry_seen (same_element_grammar i) place (slice_get p.elements place)) (in_order (element_before p) (global_places_from 0 p.elements))

  pub same_attribute_entries : (as_ : List AttributeDecl) → attribute_entries (told p) as_ ≡ attribute_entries p as_
  same_attribute_entries [] = refl
  same_attribute_entries (a ∷ as_) = λ i. if a.global then (a.name, same_representation p i a.of) ∷ same_attribute_entries as_ i else same_attribute_entries as_ i

  -- ---- the schema
  pub same_outline : (made : Made) → outline_of (told p) made ≡ outline_of p made
  same_outline made = λ i. record {
    known = true;
    grammars = whole_grammar (document (map (λ (e : ElementEntry). (e.name, e.full)) (same_globals i))) ∷ whole_grammar (fragment (same_elements i)) ∷ made.grammars;
    globals = same_globals i;
    fragment = same_elements i;
    attributes = same_attribute_entries p.attributes i;
    types = same_type_entries 0 0 p.types i;
    names = same_first_names p i;
  }

  pub same_outlined : (r : Result Made SchemaFault) → outlined (told p) r ≡ outlined p r
  same_outlined (Err fault) = refl
  same_outlined (Ok made) = λ i. Ok (same_outline made i)

  pub same_compiled : compiled (told p) ≡ compiled p
  same_compiled = λ i. same_outlined (same_made i) i
