-- What a schema's parts become, put together.
use Rattle.std.proofs.Common.{◌≡◌, ℕ, zero, suc, ◌+◌, ◌<◌, ◌≤◌, ◌^◌, Bool, true, false, leb, if◌then◌else◌, Ok, List, [], ◌∷◌, ◌++◌, All, get_or, length, map, take, sym, ap, subst, ◌∙◌, arith}
use Rattle.std.proofs.lemmas.List.{length-map, map_more}
use Rattle.std.proofs.lemmas.List.Elements.{All-cons, All-map, All-nil, All-push, All-same, All-weaker}
use Rattle.exi_names.specs.Datatypes.{Representation}
use Rattle.exi_names.specs.StartTables.{Names}
use Rattle.exi_names.specs.declared.names.QName.{QName}
use Rattle.exi_gram.specs.declared.entry.ElementEntry.{ElementEntry}
use Rattle.exi_gram.specs.declared.entry.TypeEntry.{TypeEntry}
use Rattle.exi_gram.specs.declared.grammar.Grammar.{Grammar}
use Rattle.exi_gram.specs.declared.grammar.Production.{Production}
use Rattle.exi_gram.specs.Laws.{places_from}
use Rattle.exi_gram.specs.Outlines.{Outline}
use Rattle.exi_gram.specs.Schemas.{IsSchema}
use Rattle.exi_gram.specs.Terminals.{Rule, Rules, rule, rules_of}
use Rattle.exi_gram.specs.Wholes.{document, fragment, whole_grammar}
use Rattle.xsd_model.specs.declared.parts.ElementDecl.{ElementDecl}
use Rattle.xsd_model.specs.declared.parts.TypeDef.{TypeDef}
use Rattle.xsd_model.specs.Parts.{IsSchemaParts, Parts}
use Rattle.exi_vocabulary.specs.FirstNames.{IsOfSize, first_names_of}
use Rattle.exi_compiled.specs.Compiled.{Item, Made, all_made, attribute_entries, compiled, elements_of, global_entries, in_document, items_of, of_element, of_type, outline_of, outlined, type_entries_from}
use Rattle.exi_compiled.specs.Sound.{CompiledIsSchema}
use Rattle.exi_compiled.proofs.Places.{items_few}
use Rattle.exi_compile.specs.Entries.{opened_as}
use Rattle.exi_compile.specs.Makings.{IsItem}
use Rattle.exi_compile.specs.Order.{item}
use Rattle.exi_compile.specs.Whole.{AreFew}
use Rattle.exi_compile.specs.declared.order.Item as order

-- ---- all items are there
types_there : (p : Parts) (t : ℕ) (xs : List TypeDef) → t + length xs ≡ length p.types → All (IsItem p) (map of_type (places_from t xs))
types_there p t [] e = All-nil (IsItem p)
types_there p t (x ∷ xs) e =
    let a : t + suc (length xs) ≡ length p.types = e in
    All-cons (IsItem p) (of_type t) (map of_type (places_from (suc t) xs)) (omega (arith, a)) (types_there p (suc t) xs (omega (arith, a)))

elements_there : (p : Parts) (t : ℕ) (xs : List ElementDecl) → t + length xs ≡ length p.elements → All (IsItem p) (map of_element (places_from t xs))
elements_there p t [] e = All-nil (IsItem p)
elements_there p t (x ∷ xs) e =
    let a : t + suc (length xs) ≡ length p.elements = e in
    All-cons (IsItem p) (of_element t) (map of_element (places_from (suc t) xs)) (omega (arith, a)) (elements_there p (suc t) xs (omega (arith, a)))

document_there : (p : Parts) (n t : ℕ) (types : List TypeDef) (e : ℕ) (elements : List ElementDecl) → t + length types ≡ length p.types → e + length elements ≡ length p.elements → All (IsItem p) (in_document n t types e elements)
document_there p zero t types e elements f g = All-nil (IsItem p)
document_there p (suc n) t [] e elements f g = elements_there p e elements g
document_there p (suc n) t (x ∷ types) e [] f g = types_there p t (x ∷ types) f
document_there p (suc n) t (x ∷ types) e (y ∷ elements) f g =
    let a : t + suc (length types) ≡ length p.types = f in
    let b : e + suc (length elements) ≡ length p.elements = g in
    by (leb x.event y.event) (omega (arith, a)) (omega (arith, b)) (document_there p n (suc t) types e (y ∷ elements) (omega (arith, a)) g) (document_there p n t (x ∷ types) (suc e) elements f (omega (arith, b)))
  where
    by : (c : Bool) → t < length p.types → e < length p.elements → All (IsItem p) (in_document n (suc t) types e (y ∷ elements)) → All (IsItem p) (in_document n t (x ∷ types) (suc e) elements)
        → All (IsItem p) (if c then of_type t ∷ in_document n (suc t) types e (y ∷ elements) else of_element e ∷ in_document n t (x ∷ types) (suc e) elements)
    by true i j h k = All-cons (IsItem p) (of_type t) (in_document n (suc t) types e (y ∷ elements)) i h
    by false i j h k = All-cons (IsItem p) (of_element e) (in_document n t (x ∷ types) (suc e) elements) j k

pub items_there : (p : Parts) → All (IsItem p) (items_of p)
items_there p = document_there p (suc (length p.types + length p.elements)) 0 p.types 0 p.elements (omega arith) (omega arith)

-- ---- the items
pub items_same : (p : Parts) (types : List TypeDef) (elements : List ElementDecl) → types ≡ p.types → elements ≡ p.elements → in_document (suc (length types + length elements)) 0 types 0 elements ≡ items_of p
items_same p types elements t e =
    ap (λ ts. in_document (suc (length ts + length elements)) 0 ts 0 elements) t
    ∙ ap (λ es. in_document (suc (length p.types + length es)) 0 p.types 0 es) e

pub items_count : (p : Parts) (items : List order.Item) → map item items ≡ items_of p → length items ≡ length (items_of p)
items_count p items e = sym (length-map items item) ∙ ap (λ (l : List Item). length l) e

pub few_declared : (p : Parts) → IsOfSize p → length p.types + length p.elements ≤ 2 ^ 28
few_declared p size = omega (arith, size)

pub few_items : (p : Parts) (items : List order.Item) → IsOfSize p → map item items ≡ items_of p → length items ≤ 2 ^ 28
few_items p items size e =
    let same : length items ≡ length (items_of p) = items_count p items e in
    let few : length (items_of p) ≤ length p.types + length p.elements = items_few p in
    let declared : length p.types + length p.elements ≤ 2 ^ 28 = few_declared p size in
    omega (arith, same, few, declared)

-- ---- no state has too many productions
abbrev pub IsFew : List (List Rule) → Type 0
IsFew states = All (λ state. length state < 2 ^ 30) states

pub few_rules : (g : Grammar) → All (λ state. length state < 2 ^ 30) g.states → IsFew (rules_of g).states
few_rules g h =
    All-map (λ (state : List Rule). length state < 2 ^ 30) (map rule) g.states
    (All-weaker (λ (state : List Production). length state < 2 ^ 30) (λ (state : List Production). length (map rule state) < 2 ^ 30) (λ state less. let long : length (map rule state) ≡ length state = length-map state rule in omega (arith, long, less)) g.states h)

pub few_more : (grammars : List Grammar) (i : ℕ) (g : Grammar) → i < length grammars → g ≡ get_or grammars i g → All (λ state. length state < 2 ^ 30) g.states → AreFew (map rules_of (take i grammars)) → AreFew (map rules_of (take (i + 1) grammars))
few_more grammars i g less at here few =
    All-same (λ (r : Rules). IsFew r.states) (map rules_of (take (i + 1) grammars)) (map rules_of (take i grammars) ++ rules_of (get_or grammars i g) ∷ []) (map_more rules_of grammars i g less)
    (All-push (λ (r : Rules). IsFew r.states) (map rules_of (take i grammars)) (rules_of (get_or grammars i g)) few (subst (λ (h : Grammar). IsFew (rules_of h).states) at (few_rules g here)))

-- ---- the schema
abbrev pub schema_of : List Rules → List ElementEntry → List (QName × ℕ) → List (QName × Representation) → List TypeEntry → Names → Outline
schema_of grammars globals named attributes types names = record { known = true; grammars = grammars; globals = globals; fragment = named; attributes = attributes; types = types; names = names }

pub outline_is : (p : Parts) (made : Made) (grammars : List Rules) (globals : List ElementEntry) (named : List (QName × ℕ)) (attributes : List (QName × Representation)) (types : List TypeEntry) (names : Names)
    → grammars ≡ whole_grammar (document (map opened_as globals)) ∷ whole_grammar (fragment named) ∷ made.grammars
    → globals ≡ global_entries p → named ≡ elements_of p → attributes ≡ attribute_entries p p.attributes → types ≡ type_entries_from p 0 p.types → names ≡ first_names_of p
    → schema_of grammars globals named attributes types names ≡ outline_of p made
outline_is p made grammars globals named attributes types names g e f a t n =
    ap (λ x. schema_of x globals named attributes types names) g
    ∙ ap (λ x. schema_of (whole_grammar (document (map opened_as x)) ∷ whole_grammar (fragment named) ∷ made.grammars) x named attributes types names) e
    ∙ ap (λ x. schema_of (whole_grammar (document (map opened_as (global_entries p))) ∷ whole_grammar (fragment x) ∷ made.grammars) (global_entries p) x attributes types names) f
    ∙ ap (λ x. schema_of (whole_grammar (document (map opened_as (global_entries p))) ∷ whole_grammar (fragment (elements_of p)) ∷ made.grammars) (global_entries p) (elements_of p) x types names) a
    ∙ ap (λ x. schema_of (whole_grammar (document (map opened_as (global_entries p))) ∷ whole_grammar (fragment (elements_of p)) ∷ made.grammars) (global_entries p) (elements_of p) (attribute_entries p p.attributes) x names) t
    ∙ ap (λ x. schema_of (whole_grammar (document (map opened_as (global_entries p))) ∷ whole_grammar (fragment (elements_of p)) ∷ made.grammars) (global_entries p) (elements_of p) (attribute_entries p p.attributes) (type_entries_from p 0 p.types) x) n

pub compiled_ok : (p : Parts) (made : Made) → all_made p ≡ Ok made → compiled p ≡ Ok (outline_of p made)
compiled_ok p made e = ap (outlined p) e

pub schema_is : (p : Parts) (made : Made) (o : Outline) → CompiledIsSchema → IsSchemaParts p → IsOfSize p → all_made p ≡ Ok made → o ≡ outline_of p made → AreFew o.grammars → IsSchema o
schema_is p made o law parts size e same few = law p o parts size (compiled_ok p made e ∙ ap Ok (sym same)) few
