-- Where types have their wildcards from, one after another.
use Rattle.std.proofs.Common.{◌≡◌, ℕ, zero, suc, ◌<◌, ◌≤◌, eqb, Bool, true, false, cond, not, ◌||◌, ◌&&◌, Option, Some, None, inl, inr, List, [], ◌∷◌, get_or, length, take, refl, sym, ap, ◌∙◌, arith}
use Rattle.std.specs.List.{flat_map, list_all}
use Rattle.std.proofs.lemmas.Bool.{and_parts, cases_lt, cond-false, cond-true, eqb-true, false≢true}
use Rattle.std.proofs.lemmas.List.{get_or_past, take_all}
use Rattle.std.proofs.lemmas.Option.{slice_get_past}
use Rattle.xsd_tree.specs.declared.node.Node.{Node}
use Rattle.xsd_nodes.specs.Nodes.{is_among_at, is_at, part_at, part_in}
use Rattle.xsd_nodes.specs.PartNames.{is_part, part_number}
use Rattle.xsd_nodes.specs.declared.part.Part.TheVariants as part
use Rattle.xsd_components.specs.References.{base, derivation, is_simple}
use Rattle.xsd_components.specs.declared.type_at.TypeAt.{TypeAt}
use Rattle.xsd_components.specs.declared.type_at.TypeAt.TheVariants as type_at
use Rattle.xsd_derivations.specs.Derivations.{derived_from, derived_in, inline_in}
use Rattle.xsd_paths.specs.Paths.{IsOrder, has_whole_groups, is_in, is_whole_type, is_whole_within, leads_to}
use Rattle.xsd_paths.proofs.Orders.{order_within}
use Rattle.xsd_steps.specs.Steps.{step_to, steps, typed_parts}
use Rattle.xsd_type_wildcards.specs.Sources.{has_own, holder_or, inherited, source_of, source_of_base, source_within}
use Rattle.xsd_type_wildcards.specs.Told.{AreTypes, base_told, derived_told, held_or, if_whole, own_told, told_by, told_in, type_told}
use Rattle.xsd_type_wildcards.specs.TypeWildcards.{attributes_in, base_groups, or_itself, whole_groups_within}
use Rattle.xsd_type_wildcards.specs.declared.source.Source.{Source}
use Rattle.xsd_type_wildcards.specs.declared.source.Source.TheVariants as source

-- through so many types
abbrev pub told_within : ℕ → List Node → TypeAt → Option Source
told_within n ns t = if_whole (whole_groups_within n ns t) (source_within n ns t)

pub told_is : (ns : List Node) (t : TypeAt) → type_told ns t ≡ told_within (suc (length ns)) ns t
unfolding source_of
told_is ns t = refl

-- ---- a type is told by its base
without_base : (extends : Bool) → Some source.Nowhere ≡ if_whole true (cond extends source.Nowhere source.Nowhere)
without_base true = refl
without_base false = refl

with_base : (extends whole : Bool) (of : Source) → cond extends (if_whole whole of) (Some source.Nowhere) ≡ if_whole (not extends || whole) (cond extends of source.Nowhere)
with_base true whole of = refl
with_base false whole of = refl

base_is : (ns : List Node) (n d : ℕ) (b : Option TypeAt) → base_told ns (told_within n ns) d b ≡ if_whole (base_groups ns (whole_groups_within n ns) d b) (cond (is_at ns part.Extension d) (source_of_base (source_within n ns) b) source.Nowhere)
base_is ns n d None = without_base (is_at ns part.Extension d)
base_is ns n d (Some t) = with_base (is_at ns part.Extension d) (whole_groups_within n ns t) (source_within n ns t)

node_by : (d : ℕ) (simple whole base_whole own : Bool) (of : Source) → if_whole (simple || (whole && base_whole)) (cond simple source.Nowhere (holder_or own d of)) ≡ cond simple (Some source.Nowhere) (held_or d (if_whole whole own) (if_whole base_whole of))
node_by d true whole base_whole own of = refl
node_by d false false base_whole own of = refl
node_by d false true false own of = refl
node_by d false true true own of = refl

node : (ns : List Node) (n i : ℕ) → told_within (suc n) ns (type_at.Node i) ≡ told_by ns (told_within n ns) i
node ns n i =
    let d = attributes_in ns i in
    let simple = is_simple ns (type_at.Node i) in
    node_by d simple (has_whole_groups ns d) (base_groups ns (whole_groups_within n ns) d (base ns d)) (has_own ns d) (inherited ns (source_within n ns) d)
    ∙ ap (λ (o : Option Source). cond simple (Some source.Nowhere) (held_or d (own_told ns d) o)) (sym (base_is ns n d (base ns d)))

-- ---- and so alike where its base is told alike
no_extension : (ns : List Node) (i : ℕ) → is_at ns part.ComplexType i ≡ true → is_at ns part.Extension i ≡ true → ⊥
no_extension ns i e f =
    let p : 8 ≡ part_number (part_at ns i) = eqb-true 8 (part_number (part_at ns i)) e in
    let q : 13 ≡ part_number (part_at ns i) = eqb-true 13 (part_number (part_at ns i)) f in omega (arith, p, q)

-- the test of the place of a type, where it has one
abbrev type_leads : (ℕ → Bool) → TypeAt → Bool
type_leads test (type_at.Built place) = true
type_leads test (type_at.Node j) = test j

lead_first : (test : ℕ → Bool) (t : TypeAt) (ts all : List (Option TypeAt)) → all ≡ Some t ∷ ts → list_all (leads_to test) (flat_map step_to all) ≡ true → type_leads test t ≡ true
lead_first test (type_at.Built place) ts all e f = refl
lead_first test (type_at.Node j) ts all e f =
    (and_parts (test j) (list_all (leads_to test) (flat_map step_to ts)) (ap (λ (l : List (Option TypeAt)). list_all (leads_to test) (flat_map step_to l)) (sym e) ∙ f)).0

-- an extension is derived from its base
derived_is : (ns : List Node) (d : ℕ) (r : Bool) → is_at ns part.Restriction d ≡ r → is_at ns part.Extension d ≡ true → (more : List (Option TypeAt)) × (derived_in ns d ≡ base ns d ∷ more)
derived_is ns d true r e = (inline_in ns d, cond-true (is_at ns part.Restriction d) (base ns d ∷ inline_in ns d) _ r)
derived_is ns d false r e = ([], cond-false (is_at ns part.Restriction d) (base ns d ∷ inline_in ns d) _ r ∙ cond-true (is_at ns part.Extension d) (base ns d ∷ []) _ e)

typed_by : (n : ℕ) → n ≡ 8 → (eqb n 9 || (eqb n 8 || (eqb n 12 || false))) ≡ true
typed_by n e = rw e refl

-- and so its base is among what the steps of its type lead to
base_leads : (ns : List Node) (test : ℕ → Bool) (i d : ℕ) (t : TypeAt) → is_at ns part.ComplexType i ≡ true → derivation ns i ≡ Some d → is_at ns part.Extension d ≡ true → base ns d ≡ Some t → list_all (leads_to test) (steps ns i) ≡ true → type_leads test t ≡ true
base_leads ns test i d t complex derived extends base_is e =
    let typed : is_among_at ns typed_parts i ≡ true = typed_by (part_number (part_at ns i)) (sym (eqb-true 8 (part_number (part_at ns i)) complex)) in
    let there : steps ns i ≡ flat_map step_to (derived_in ns d) =
    cond-true (is_among_at ns typed_parts i) (flat_map step_to (derived_from ns (derivation ns i))) _ typed ∙ ap (λ (o : Option ℕ). flat_map step_to (derived_from ns o)) derived in
    let parts = derived_is ns d (is_at ns part.Restriction d) refl extends in
    lead_first test t parts.0 (derived_in ns d) (parts.1 ∙ ap (λ (b : Option TypeAt). b ∷ parts.0) base_is) (ap (list_all (leads_to test)) (sym there) ∙ e)

extends_alike : (extends : Bool) (a b : Option Source) → (extends ≡ true → a ≡ b) → cond extends a (Some source.Nowhere) ≡ cond extends b (Some source.Nowhere)
extends_alike true a b h = h refl
extends_alike false a b h = refl

told_agree : (ns : List Node) (test : ℕ → Bool) (f g : TypeAt → Option Source) (i : ℕ) → ((t : TypeAt) → type_leads test t ≡ true → f t ≡ g t) → list_all (leads_to test) (steps ns i) ≡ true → told_by ns f i ≡ told_by ns g i
told_agree ns test f g i alike e = by (is_at ns part.ComplexType i) (derivation ns i) refl refl
  where
    on_base : (d : ℕ) (b : Option TypeAt) → ((t : TypeAt) → b ≡ Some t → is_at ns part.Extension d ≡ true → type_leads test t ≡ true) → base_told ns f d b ≡ base_told ns g d b
    on_base d None l = refl
    on_base d (Some t) l = extends_alike (is_at ns part.Extension d) (f t) (g t) (λ x. alike t (l t refl x))

    by : (c : Bool) (o : Option ℕ) → is_at ns part.ComplexType i ≡ c → derivation ns i ≡ o → cond (not c) (Some source.Nowhere) (derived_told ns f (or_itself i o)) ≡ cond (not c) (Some source.Nowhere) (derived_told ns g (or_itself i o))
    by false o c_is o_is = refl
    by true None c_is o_is = ap (λ (o : Option Source). held_or i (own_told ns i) o) (on_base i (base ns i) (λ t f x. absurd (no_extension ns i c_is x)))
    by true (Some d) c_is o_is = ap (λ (o : Option Source). held_or d (own_told ns d) o) (on_base d (base ns d) (λ t f x. base_leads ns test i d t c_is o_is x f e))

-- ---- types enough
settled : (ns : List Node) (m n : ℕ) → m ≤ n → (t : TypeAt) → type_leads (is_whole_within m ns) t ≡ true → told_within (suc m) ns t ≡ told_within (suc n) ns t
settled ns m n le (type_at.Built place) l = refl
settled ns zero n le (type_at.Node i) l = absurd (false≢true l)
settled ns (suc m) zero le (type_at.Node i) l = absurd (omega (arith, le))
settled ns (suc m) (suc n) le (type_at.Node i) l =
    let less : m ≤ n = omega (arith, le) in
    node ns (suc m) i ∙ told_agree ns (is_whole_within m ns) (told_within (suc m) ns) (told_within (suc n) ns) i (settled ns m n less) l ∙ sym (node ns (suc n) i)

one_step : (ns : List Node) (n i : ℕ) → is_whole_within n ns i ≡ true → told_within (suc n) ns (type_at.Node i) ≡ told_by ns (told_within (suc n) ns) i
one_step ns zero i e = absurd (false≢true e)
one_step ns (suc m) i e =
    let less : m ≤ suc m = omega arith in
    node ns (suc m) i ∙ told_agree ns (is_whole_within m ns) (told_within (suc m) ns) (told_within (suc (suc m)) ns) i (settled ns m (suc m) less) e

-- by the element that holds the attributes
pub told_by_holder : (ns s : List Node) (f : TypeAt → Option Source) (i d : ℕ) (simple : Bool) → s ≡ ns → simple ≡ is_simple s (type_at.Node i) → simple ≡ false → d ≡ attributes_in s i → derived_told ns f d ≡ told_by ns f i
told_by_holder ns s f i d simple s_is simple_is complex d_is =
    let here : is_simple ns (type_at.Node i) ≡ false = ap (λ (x : List Node). is_simple x (type_at.Node i)) (sym s_is) ∙ sym simple_is ∙ complex in
    ap (derived_told ns f) (d_is ∙ ap (λ (x : List Node). attributes_in x i) s_is)
    ∙ sym (cond-false (is_simple ns (type_at.Node i)) (Some source.Nowhere) (derived_told ns f (attributes_in ns i)) here)

-- ---- one after another
abbrev pub told_of_node : List Node → ℕ → Option Source
told_of_node ns i = type_told ns (type_at.Node i)

abbrev pub TellsTypes : List Node → List ℕ → List (Option Source) → Type 0
TellsTypes ns xs types = (i : ℕ) → is_in xs i ≡ true → get_or types i (Some source.Nowhere) ≡ told_of_node ns i

pub types_next : (ns : List Node) (order : List ℕ) (k : ℕ) (types : List (Option Source)) → IsOrder ns order → k < length order → TellsTypes ns (take k order) types → told_by ns (told_in types) (get_or order k 0) ≡ told_of_node ns (get_or order k 0)
types_next ns order k types o less each =
    told_agree ns (is_in (take k order)) (told_in types) (told_within (suc (length ns)) ns) (get_or order k 0) here (o.before k less)
    ∙ sym (one_step ns (length ns) (get_or order k 0) (order_within ns order o.before (length ns) k (omega (arith, less, o.few)) less))
    ∙ sym (told_is ns (type_at.Node (get_or order k 0)))
  where
    here : (t : TypeAt) → type_leads (is_in (take k order)) t ≡ true → told_in types t ≡ told_within (suc (length ns)) ns t
    here (type_at.Built place) l = refl
    here (type_at.Node j) l = each j l ∙ told_is ns (type_at.Node j)

-- a place behind all is no complex type
not_complex : (ns : List Node) (i : ℕ) → length ns ≤ i → is_at ns part.ComplexType i ≡ false
not_complex ns i le = ap (λ (n : Option Node). is_part part.ComplexType (part_in n)) (slice_get_past ns i le)

types_made : (ns : List Node) (types : List (Option Source)) (order : List ℕ) → IsOrder ns order → length types ≡ length ns → TellsTypes ns order types → (t : TypeAt) → is_whole_type ns t ≡ true → told_in types t ≡ type_told ns t
types_made ns types order o count each (type_at.Built place) whole = sym (told_is ns (type_at.Built place))
types_made ns types order o count each (type_at.Node i) whole = elim (cases_lt i (length ns)) [
  | inl less ↦ each i (o.all i less whole)
  | inr le ↦
      let behind : length types ≤ i = omega (arith, count, le) in
      let d = attributes_in ns i in
      let groups = has_whole_groups ns d && base_groups ns (whole_groups_within (length ns) ns) d (base ns d) in
      let held = holder_or (has_own ns d) d (inherited ns (source_within (length ns) ns) d) in
      get_or_past types i (Some source.Nowhere) behind
      ∙ ap (λ (c : Bool). if_whole (not c || groups) (cond (not c) source.Nowhere held)) (sym (not_complex ns i le))
      ∙ sym (told_is ns (type_at.Node i))
]

pub are_types : (ns : List Node) (types : List (Option Source)) (order : List ℕ) (k : ℕ) → IsOrder ns order → length types ≡ length ns → length order ≤ k → TellsTypes ns (take k order) types → AreTypes ns types
are_types ns types order k o count ended each =
    record { each = types_made ns types order o count (λ i inside. each i (rw (take_all k order ended) inside)) }
