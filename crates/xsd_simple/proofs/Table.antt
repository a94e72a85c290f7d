-- The types of an order, one after another.
use Rattle.std.proofs.Common.{◌≡◌, ℕ, zero, suc, ◌+◌, ◌<◌, ◌≤◌, Bool, nat_lt, true, false, cond, ◌||◌, ◌⊎◌, inl, inr, Option, Some, None, List, [], ◌∷◌, ◌++◌, filter, get_or, length, map, set, slice_get, take, refl, sym, ap, subst, ◌∙◌, arith}
use Rattle.std.specs.List.{flat_map, list_all}
use Rattle.std.proofs.lemmas.Bool.{cases_eq, cases_lt, cond-true, eq-eqb, eqb-true, lt-ltb, le-ltb, false≢true, or_left, or_right}
use Rattle.std.proofs.lemmas.List.{get_or-set_other, get_or_append_left, length-append, length-set, take_all}
use Rattle.std.proofs.lemmas.Grind.{get_or-set_at}
use Rattle.std.proofs.lemmas.Option.{none-some, slice_get_past}
use Rattle.exi_names.specs.Datatypes.{Representation}
use Rattle.xsd_tree.specs.declared.node.Node.{Node}
use Rattle.xsd_nodes.specs.Nodes.{child, child_of, children, first, is_among_at, is_at, is_child, part_at, part_in, places_from}
use Rattle.xsd_nodes.specs.PartNames.{is_part, part_number}
use Rattle.xsd_nodes.specs.declared.part.Part.{Part}
use Rattle.xsd_nodes.specs.declared.part.Part.TheVariants as part
use Rattle.xsd_builtins.specs.BuiltIns.{families, family_in}
use Rattle.xsd_components.specs.References.{derivation}
use Rattle.xsd_components.specs.declared.type_at.TypeAt.{TypeAt}
use Rattle.xsd_components.specs.declared.type_at.TypeAt.TheVariants as type_at
use Rattle.xsd_derivations.specs.Derivations.{derived_from}
use Rattle.xsd_paths.specs.Paths.{IsOrder, is_in, is_whole, is_whole_type, is_whole_within, leads_to}
use Rattle.xsd_paths.proofs.Orders.{at_whole, in_more}
use Rattle.xsd_paths.proofs.Within.{is_within, whole_within}
use Rattle.xsd_restrictions.specs.Restrictions.{Simple, any_simple_but, atomic, built_in_family, built_in_simple}
use Rattle.xsd_restrictions.specs.Entries.{IsEntry, simple_at}
use Rattle.xsd_restrictions.specs.declared.entry.Entry.{Entry}
use Rattle.xsd_steps.specs.Steps.{step_to, steps, typed_parts}
use Rattle.xsd_simple.specs.Simple.{derived_simple, if_type, simple_derived, simple_of, simple_within}
use Rattle.xsd_simple.specs.Kept.{AreBuilt, AreEntries, AreKnown, AreSimples, any_simple, built_place, derived_place, place_if, place_of, simple_in, simples, told, with_derived, with_place}
use Rattle.xsd_simple.proofs.Follows.{Follows, of_steps, own_derivation, part_same, step_agrees}
use Rattle.xsd_simple.proofs.Fuel.{final, in_order, order_closed}
use Rattle.xsd_simple.proofs.Kept.{at_end, count_simples, entry_is, simple_is}

-- ---- an element that says how a type is derived is there
abbrev AreBelow : ℕ → List ℕ → Type 0
AreBelow n [] = Unit {0}
AreBelow n (j ∷ js) = (j < n) × AreBelow n js

abbrev IsBelow : ℕ → Option ℕ → Type 0
IsBelow n None = Unit {0}
IsBelow n (Some j) = j < n

either : {A : Type 0} (P : A → Type 0) (b : Bool) (x y : A) → P x → P y → P (cond b x y)
either P true x y p q = p
either P false x y p q = q

places_below : (n i : ℕ) (ns : List Node) → i + length ns ≤ n → AreBelow n (places_from i ns)
places_below n i [] le = tt
places_below n i (x ∷ ns) le = (omega (arith, le), places_below n (suc i) ns (omega (arith, le)))

filter_below : (n : ℕ) (test : ℕ → Bool) (js : List ℕ) → AreBelow n js → AreBelow n (filter test js)
filter_below n test [] h = tt
filter_below n test (j ∷ js) h = let more = filter_below n test js h.1 in either (AreBelow n) (test j) (j ∷ filter test js) (filter test js) (h.0, more) more

first_below : (n : ℕ) (js : List ℕ) → AreBelow n js → IsBelow n (first js)
first_below n [] h = tt
first_below n (j ∷ js) h = h.0

child_below : (ns : List Node) (ps : List Part) (i : ℕ) → IsBelow (length ns) (child ns ps i)
child_below ns ps i = first_below (length ns) (children ns ps i) (filter_below (length ns) (is_child ns ps i) (places_from 0 ns) (places_below (length ns) 0 ns (omega arith)))

child_of_below : (ns : List Node) (ps : List Part) (i : Option ℕ) → IsBelow (length ns) (child_of ns ps i)
child_of_below ns ps None = tt
child_of_below ns ps (Some i) = child_below ns ps i

-- an element behind all is none
no_part : (ns : List Node) (p : Part) (i : ℕ) → is_part p part.Other ≡ false → length ns ≤ i → is_at ns p i ≡ false
no_part ns p i other_is le = ap (λ (n : Option Node). is_part p (part_in n)) (slice_get_past ns i le) ∙ other_is

own_below : (ns : List Node) (i : ℕ) (r : Bool) → is_at ns part.Restriction i ≡ r → IsBelow (length ns) (cond r (Some i) None)
own_below ns i false is = tt
own_below ns i true is = elim (cases_lt i (length ns)) [ inl less ↦ less | inr le ↦ absurd (false≢true (sym (no_part ns part.Restriction i refl le) ∙ is)) ]

derivation_below : (ns : List Node) (i : ℕ) → IsBelow (length ns) (derivation ns i)
derivation_below ns i =
    either (IsBelow (length ns)) (is_at ns part.SimpleType i) _ _ (child_below ns (part.Restriction ∷ part.List ∷ part.Union ∷ []) i)
    (either (IsBelow (length ns)) (is_at ns part.ComplexType i) _ _ (child_of_below ns (part.Restriction ∷ part.Extension ∷ []) (child ns (part.SimpleContent ∷ part.ComplexContent ∷ []) i))
    (own_below ns i (is_at ns part.Restriction i) refl))

pub derived_there : (ns : List Node) (i d : ℕ) → derivation ns i ≡ Some d → d < length ns
derived_there ns i d is = subst (IsBelow (length ns)) is (derivation_below ns i)

no_derivation : (ns : List Node) (i : ℕ) → length ns ≤ i → derivation ns i ≡ None
no_derivation ns i le =
    ap (λ (n : Option Node). cond (is_part part.SimpleType (part_in n)) (child ns (part.Restriction ∷ part.List ∷ part.Union ∷ []) i) (cond (is_part part.ComplexType (part_in n)) (child_of ns (part.Restriction ∷ part.Extension ∷ []) (child ns (part.SimpleContent ∷ part.ComplexContent ∷ []) i)) (cond (is_part part.Restriction (part_in n)) (Some i) None))) (slice_get_past ns i le)

-- ---- where a type's paths end, so do those of the restriction that derives it
steps_of_restriction : (ns : List Node) (d : ℕ) → is_at ns part.Restriction d ≡ true → steps ns d ≡ flat_map step_to (derived_from ns (derivation ns d))
steps_of_restriction ns d restricts =
    let p = part_at ns d in
    let typed : is_among_at ns typed_parts d ≡ true = or_right (is_part p part.SimpleType) (is_part p part.ComplexType || (is_part p part.Restriction || false)) (or_right (is_part p part.ComplexType) (is_part p part.Restriction || false) (or_left (is_part p part.Restriction) false (part_same part.Restriction p restricts))) in
    cond-true (is_among_at ns typed_parts d) (flat_map step_to (derived_from ns (derivation ns d))) _ typed

pub derived_whole : (ns : List Node) (i d : ℕ) → is_whole ns i ≡ true → derivation ns i ≡ Some d → is_at ns part.Restriction d ≡ true → is_whole ns d ≡ true
derived_whole ns i d whole is restricts =
    let test = is_whole_within (length ns) ns in
    let same : derivation ns d ≡ derivation ns i = own_derivation ns d restricts ∙ sym is in
    let all : list_all (leads_to test) (steps ns d) ≡ true =
    ap (list_all (leads_to test)) (steps_of_restriction ns d restricts ∙ ap (λ (o : Option ℕ). flat_map step_to (derived_from ns o)) same) ∙ of_steps ns test i (is_within ns i whole) in
    whole_within (suc (length ns)) ns d (omega arith) all

-- ---- the built-in types
behind_built : (place : ℕ) → 46 ≤ place → built_in_simple 46 ≡ built_in_simple place
unfolding families
behind_built place le = ap (λ o. built_in_family (family_in o)) (sym (slice_get_past families place le))

last_is_any : built_in_simple 46 ≡ any_simple
unfolding families
last_is_any = refl

built_told : (all : List Simple) (place : ℕ) → AreBuilt 47 all → simple_in all (built_place place) ≡ built_in_simple place
built_told all place built = elim (cases_lt place 46) [
  | inl less ↦ ap (λ (b : Bool). simple_in all (cond b place 46)) (lt-ltb place 46 less) ∙ built place (omega (arith, less))
  | inr le ↦ ap (λ (b : Bool). simple_in all (cond b place 46)) (le-ltb place 46 le) ∙ built 46 (omega arith) ∙ behind_built place le
]

unknown_told : (all : List Simple) → AreBuilt 47 all → simple_in all 46 ≡ any_simple
unknown_told all built = built 46 (omega arith) ∙ last_is_any

pub if_told : (ns : List Node) (all : List Simple) (places : List ℕ) (o : Option TypeAt) → AreBuilt 47 all → if_type (told ns all places) o ≡ simple_in all (place_if ns places o)
if_told ns all places None built = sym (unknown_told all built)
if_told ns all places (Some t) built = refl

-- ---- the places are there
module _ (ns : List Node) (forms : List Representation) (entries : List Entry) (places : List ℕ) (h : AreKnown forms entries places) where
  built_there : (place : ℕ) → built_place place < length entries
  built_there place = let less = h.some in elim (cases_lt place 46) [
    | inl before ↦ subst (λ (b : Bool). cond b place 46 < length entries) (sym (lt-ltb place 46 before)) (omega (arith, before, less))
    | inr le ↦ subst (λ (b : Bool). cond b place 46 < length entries) (sym (le-ltb place 46 le)) less
  ]

  derived_there_at : (o : Option ℕ) → derived_place places o < length entries
  derived_there_at None = h.some
  derived_there_at (Some d) = h.inside d

  pub place_there : (t : TypeAt) → place_of ns places t < length entries
  place_there (type_at.Built place) = built_there place
  place_there (type_at.Node i) = derived_there_at (derivation ns i)

  pub place_if_there : (o : Option TypeAt) → place_if ns places o < length entries
  place_if_there None = h.some
  place_if_there (Some t) = place_there t

module _ (ns : List Node) (forms : List Representation) (entries : List Entry) (places : List ℕ) (h : AreKnown forms entries places) (o : Option TypeAt) (e : Entry) (is : get_or entries (place_if ns places o) e ≡ e) where
  pub found_entry : IsEntry forms e
  found_entry = entry_is forms entries (place_if ns places o) e (place_if_there ns forms entries places h o) is h.kept

  pub found_simple : simple_at forms e ≡ if_type (told ns (simples forms entries) places) o
  found_simple = simple_is forms entries (place_if ns places o) e (place_if_there ns forms entries places h o) is ∙ sym (if_told ns (simples forms entries) places o h.built)

some_same : (x y : ℕ) → Some x ≡ Some y → x ≡ y
some_same x y e = ap (λ (o : Option ℕ). or_zero o) e
  where
    or_zero : Option ℕ → ℕ
    or_zero None = 0
    or_zero (Some z) = z

-- ---- those of the first of an order
abbrev pub Tells : List Node → List ℕ → ℕ → List Simple → List ℕ → Type 0
Tells ns order k all places = (i d : ℕ) → is_in (take k order) i ≡ true → derivation ns i ≡ Some d → simple_in all (get_or places d 46) ≡ final ns d

pub record AreFilled (ns : List Node) (order : List ℕ) (k : ℕ) (forms : List Representation) (entries : List Entry) (places : List ℕ) : Type 0 where
  pub known : AreKnown forms entries places
  pub count : length places ≡ length ns
  pub each : Tells ns order k (simples forms entries) places

module _ (ns : List Node) (order : List ℕ) (k : ℕ) (o : IsOrder ns order) (all : List Simple) (places : List ℕ) (built : AreBuilt 47 all) (each : Tells ns order k all places) where
  abbrev whole_simple : TypeAt → Simple
  whole_simple t = simple_within (suc (length ns)) ns t

  by_derivation : (i : ℕ) (d : Option ℕ) → is_in (take k order) i ≡ true → derivation ns i ≡ d → simple_in all (derived_place places d) ≡ simple_derived ns (simple_within (suc (length ns)) ns) d
  unfolding final
  by_derivation i None e is = unknown_told all built
  by_derivation i (Some d) e is = each i d e is

  node_told : (i : ℕ) → is_in (take k order) i ≡ true → told ns all places (type_at.Node i) ≡ whole_simple (type_at.Node i)
  node_told i e = by_derivation i (derivation ns i) e refl ∙ sym (in_order ns order k i o e)

  same_told : (i j : ℕ) → derivation ns i ≡ derivation ns j → told ns all places (type_at.Node i) ≡ whole_simple (type_at.Node i) → told ns all places (type_at.Node j) ≡ whole_simple (type_at.Node j)
  same_told i j d e = sym (ap (λ (x : Option ℕ). simple_in all (derived_place places x)) d) ∙ e ∙ ap (simple_derived ns (simple_within (length ns) ns)) d

  follows : Follows ns (is_in (take k order)) (λ t. told ns all places t ≡ whole_simple t)
  follows = record { closed = order_closed ns order k o; built = λ place. built_told all place built; node = node_told; same = same_told }

  -- the next of the order
  next_is : (d : ℕ) → k < length order → derivation ns (get_or order k 0) ≡ Some d → derived_simple ns (told ns all places) d ≡ final ns d
  unfolding final
  next_is d less is =
      sym (ap (simple_derived ns (told ns all places)) is)
      ∙ step_agrees ns (is_in (take k order)) (told ns all places) (simple_within (suc (length ns)) ns) follows (get_or order k 0) (o.before k less)
      ∙ ap (simple_derived ns (simple_within (suc (length ns)) ns)) is

  tells_none : k < length order → derivation ns (get_or order k 0) ≡ None → Tells ns order (k + 1) all places
  tells_none less is i d e d_is = elim (in_more order k i less e) [
    | inl f ↦ each i d f d_is
    | inr f ↦ absurd (none-some d (sym is ∙ ap (derivation ns) (sym f) ∙ d_is))
  ]

  module _ (d₀ : ℕ) (less : k < length order) (is : derivation ns (get_or order k 0) ≡ Some d₀) (there : d₀ < length places) (inside : (d : ℕ) → get_or places d 46 < length all) where
    abbrev all_more : List Simple
    all_more = all ++ derived_simple ns (told ns all places) d₀ ∷ []

    place_here : (d : ℕ) → d ≡ d₀ → get_or (set places d₀ (length all)) d 46 ≡ length all
    place_here d f = get_or-set_at places d₀ d (length all) 46 f there

    place_before : (d : ℕ) → (d ≡ d₀ → ⊥) → get_or (set places d₀ (length all)) d 46 ≡ get_or places d 46
    place_before d n = get_or-set_other places d₀ d (length all) 46 n

    tells_some : Tells ns order (k + 1) all_more (set places d₀ (length all))
    tells_some i d e d_is = elim (cases_eq d d₀) [
      | inl f ↦ ap (simple_in all_more) (place_here d f) ∙ at_end all (derived_simple ns (told ns all places) d₀) ∙ next_is d₀ less is ∙ ap (final ns) (sym f)
      | inr n ↦
          ap (simple_in all_more) (place_before d n)
          ∙ get_or_append_left all (derived_simple ns (told ns all places) d₀ ∷ []) any_simple (get_or places d 46) (inside d)
          ∙ elim (in_more order k i less e) [ inl g ↦ each i d g d_is | inr g ↦ absurd (n (some_same d d₀ (sym d_is ∙ ap (derivation ns) g ∙ is))) ]
    ]

    inside_some : (d : ℕ) → get_or (set places d₀ (length all)) d 46 < length all + 1
    inside_some d = elim (cases_eq d d₀) [
      | inl f ↦ let p = place_here d f in omega (arith, p)
      | inr n ↦ let p = place_before d n in let l = inside d in omega (arith, p, l)
    ]

-- ---- step by step
module _ (ns : List Node) (order : List ℕ) (k : ℕ) (o : IsOrder ns order) (old new : List Representation) (es items : List Entry) (places rest : List ℕ) (h : AreFilled ns order k old es places) where
  abbrev before : List Simple
  before = simples old es

  abbrev after : List Simple
  after = simples new items

  filled_none : k < length order → derivation ns (get_or order k 0) ≡ None → AreEntries new items → after ≡ before → rest ≡ places → AreFilled ns order (k + 1) new items rest
  filled_none less is all same rest_is =
      let l1 = sym (count_simples new items) ∙ ap length same ∙ count_simples old es in
      let l2 = h.known.some in record {
        known = record {
          kept = all;
          built = subst (AreBuilt 47) (sym same) h.known.built;
          some = omega (arith, l1, l2);
          inside = λ d. let l3 = h.known.inside d in let l4 = ap (λ (ps : List ℕ). get_or ps d 46) rest_is in omega (arith, l1, l3, l4);
        };
        count = ap length rest_is ∙ h.count;
        each = subst (λ (ss : List Simple). Tells ns order (k + 1) ss rest) (sym same) (subst (Tells ns order (k + 1) before) (sym rest_is) (tells_none ns order k o before places h.known.built h.each less is));
      }

  filled_some : (d : ℕ) → k < length order → derivation ns (get_or order k 0) ≡ Some d → AreEntries new items → after ≡ before ++ derived_simple ns (told ns before places) d ∷ [] → rest ≡ set places d (length es) → AreFilled ns order (k + 1) new items rest
  filled_some d less is all same rest_is =
      let s : Simple = derived_simple ns (told ns before places) d in
      let c1 : length before ≡ length es = count_simples old es in
      let c2 : length after ≡ length items = count_simples new items in
      let c3 : length after ≡ length before + 1 = ap length same ∙ length-append before (s ∷ []) in
      let l2 = h.known.some in
      let there : d < length places = (let t = derived_there ns (get_or order k 0) d is in let c = h.count in omega (arith, t, c)) in
      let set_is : rest ≡ set places d (length before) = rest_is ∙ ap (set places d) (sym c1) in
      let within : (j : ℕ) → get_or places j 46 < length before = (λ j. let l = h.known.inside j in omega (arith, l, c1)) in record {
        known = record {
          kept = all;
          built = λ p l. ap (λ (ss : List Simple). simple_in ss p) same ∙ get_or_append_left before (s ∷ []) any_simple p (omega (arith, l, l2, c1)) ∙ h.known.built p l;
          some = omega (arith, c1, c2, c3, l2);
          inside = λ j. let l3 = inside_some ns order k o before places h.known.built h.each d less is there within j in let l4 = ap (λ (ps : List ℕ). get_or ps j 46) set_is in omega (arith, c2, c3, l3, l4);
        };
        count = ap length rest_is ∙ length-set places d (length es) ∙ h.count;
        each = subst (λ (ss : List Simple). Tells ns order (k + 1) ss rest) (sym same) (subst (Tells ns order (k + 1) (before ++ s ∷ [])) (sym set_is) (tells_some ns order k o before places h.known.built h.each d less is there within));
      }

  filled_by : (d : Option ℕ) → k < length order → derivation ns (get_or order k 0) ≡ d → AreEntries new items → after ≡ with_derived ns before places d → rest ≡ with_place (length es) places d → AreFilled ns order (k + 1) new items rest
  filled_by None less is all same rest_is = filled_none less is all same rest_is
  filled_by (Some d) less is all same rest_is = filled_some d less is all same rest_is

  pub filled_next : k < length order → AreEntries new items → after ≡ with_derived ns before places (derivation ns (get_or order k 0)) → rest ≡ with_place (length es) places (derivation ns (get_or order k 0)) → AreFilled ns order (k + 1) new items rest
  filled_next less all same rest_is = filled_by (derivation ns (get_or order k 0)) less refl all same rest_is

-- ---- at the start
pub none_filled : (ns : List Node) (order : List ℕ) (forms : List Representation) (entries : List Entry) (places : List ℕ) → AreEntries forms entries → AreBuilt 47 (simples forms entries) → length entries ≡ 47 → length places ≡ length ns → ((d : ℕ) → get_or places d 46 ≡ 46) → AreFilled ns order 0 forms entries places
none_filled ns order forms entries places all built count places_count same = record {
  known = record { kept = all; built = built; some = omega (arith, count); inside = λ d. let e = same d in omega (arith, count, e) };
  count = places_count;
  each = λ i d e is. absurd (false≢true e);
}

-- ---- at the end
module _ (ns : List Node) (order : List ℕ) (k : ℕ) (o : IsOrder ns order) (forms : List Representation) (entries : List Entry) (places : List ℕ) (h : AreFilled ns order k forms entries places) (ended : length order ≤ k) where
  all_told : (t : TypeAt) → is_whole_type ns t ≡ true → told ns (simples forms entries) places t ≡ simple_of ns t
  unfolding simple_of
  all_told (type_at.Built place) whole = built_told (simples forms entries) place h.known.built
  all_told (type_at.Node i) whole = elim (cases_lt i (length ns)) [
    | inl less ↦ node_told ns order k o (simples forms entries) places h.known.built h.each i (ap (λ (l : List ℕ). is_in l i) (take_all k order ended) ∙ o.all i less whole)
    | inr le ↦
        let none = no_derivation ns i le in
        ap (λ (d : Option ℕ). simple_in (simples forms entries) (derived_place places d)) none ∙ unknown_told (simples forms entries) h.known.built ∙ sym (ap (simple_derived ns (simple_within (length ns) ns)) none)
  ]

  pub all_filled : AreSimples ns forms entries places
  all_filled = record { known = h.known; each = all_told }

pub next_whole : (ns : List Node) (order : List ℕ) (k : ℕ) → IsOrder ns order → k < length order → is_whole ns (get_or order k 0) ≡ true
next_whole ns order k o less = at_whole ns order k o.few o.before less
