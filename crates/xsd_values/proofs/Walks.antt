-- What is known of the types of an order, one after another.
use Rattle.std.proofs.Common.{◌≡◌, ℕ, zero, suc, ◌+◌, ◌<◌, ◌≤◌, Bool, true, false, ◌&&◌, Option, Some, None, inl, inr, List, get_or, length, set, slice_get, take, cond, not, refl, sym, ap, ◌∙◌, arith}
use Rattle.std.proofs.lemmas.Bool.{and_parts, cases_lt}
use Rattle.std.proofs.lemmas.List.{get_or_default, get_or_past, length-set, take_all}
use Rattle.std.proofs.lemmas.Option.{slice_get_past}
use Rattle.xsd_tree.specs.declared.node.Node.{Node}
use Rattle.xsd_nodes.specs.Nodes.{part_in}
use Rattle.xsd_nodes.specs.PartNames.{is_part}
use Rattle.xsd_nodes.specs.declared.part.Part.TheVariants as part
use Rattle.xsd_components.specs.declared.type_at.TypeAt.{TypeAt}
use Rattle.xsd_components.specs.declared.type_at.TypeAt.TheVariants as type_at
use Rattle.xsd_components.specs.References.{derivation}
use Rattle.xsd_contents.specs.Contents.{after_step, value_derived, value_type, value_type_within}
use Rattle.xsd_contents.specs.declared.value_step.ValueStep.TheVariants as step
use Rattle.xsd_paths.specs.Paths.{IsOrder, is_in, is_whole_type, is_whole_within}
use Rattle.xsd_paths.proofs.Orders.{entries_more, order_within, place_among}
use Rattle.xsd_steps.specs.Steps.{steps}
use Rattle.xsd_values.specs.Mixed.{is_mixed_in, is_mixed_type, is_mixed_within}
use Rattle.xsd_values.specs.Told.{AreMixed, AreValues, mixed_by, mixed_told, value_by, value_told}
use Rattle.xsd_values.proofs.Bases.{AllLead, Leads, mixed_agree, values_agree}

-- What is so of a type within so many steps is by what is so of its base within one less.
pub record Walk {X : Type 0} (ns : List Node) (within : ℕ → TypeAt → X) (by_bases : (TypeAt → X) → ℕ → X) : Type 0 where
  pub node : (n i : ℕ) → within (suc n) (type_at.Node i) ≡ by_bases (within n) i
  pub built : (m n place : ℕ) → within (suc m) (type_at.Built place) ≡ within (suc n) (type_at.Built place)
  pub agree : (test : ℕ → Bool) (f g : TypeAt → X) (i : ℕ) → ((t : TypeAt) → Leads test (Some t) → f t ≡ g t) → AllLead test (steps ns i) → by_bases f i ≡ by_bases g i

-- ---- steps enough
settled : {X : Type 0} (ns : List Node) (within : ℕ → TypeAt → X) (by_bases : (TypeAt → X) → ℕ → X) → Walk ns within by_bases → (m n : ℕ) → m ≤ n → (t : TypeAt) → Leads (is_whole_within m ns) (Some t) → within (suc m) t ≡ within (suc n) t
settled ns within by_bases w m n le (type_at.Built place) l = w.built m n place
settled ns within by_bases w zero n le (type_at.Node i) l = absurd cc
settled ns within by_bases w (suc m) zero le (type_at.Node i) l = absurd (omega (arith, le))
settled ns within by_bases w (suc m) (suc n) le (type_at.Node i) l =
    let less : m ≤ n = omega (arith, le) in
    let whole : AllLead (is_whole_within m ns) (steps ns i) = (and_parts (is_whole_within (suc m) ns i) true l).0 in
    w.node (suc m) i ∙ w.agree (is_whole_within m ns) (within (suc m)) (within (suc n)) i (settled ns within by_bases w m n less) whole ∙ sym (w.node (suc n) i)

one_step : {X : Type 0} (ns : List Node) (within : ℕ → TypeAt → X) (by_bases : (TypeAt → X) → ℕ → X) → Walk ns within by_bases → (n i : ℕ) → is_whole_within n ns i ≡ true → within (suc n) (type_at.Node i) ≡ by_bases (within (suc n)) i
one_step ns within by_bases w zero i e = absurd cc
one_step ns within by_bases w (suc m) i e =
    let less : m ≤ suc m = omega arith in
    w.node (suc m) i ∙ w.agree (is_whole_within m ns) (within (suc m)) (within (suc (suc m))) i (settled ns within by_bases w m (suc m) less) e

-- ---- one type more
-- it is by what is told of the places before
told_next : {X : Type 0} (ns : List Node) (within : ℕ → TypeAt → X) (by_bases : (TypeAt → X) → ℕ → X) → Walk ns within by_bases → (told : TypeAt → X) (xs : List ℕ) (n i : ℕ) → ((place : ℕ) → told (type_at.Built place) ≡ within (suc n) (type_at.Built place)) → ((j : ℕ) → is_in xs j ≡ true → told (type_at.Node j) ≡ within (suc n) (type_at.Node j)) → AllLead (is_in xs) (steps ns i) → is_whole_within n ns i ≡ true → by_bases told i ≡ within (suc n) (type_at.Node i)
told_next ns within by_bases w told xs n i built each leads whole = w.agree (is_in xs) told (within (suc n)) i here leads ∙ sym (one_step ns within by_bases w n i whole)
  where
    here : (t : TypeAt) → Leads (is_in xs) (Some t) → told t ≡ within (suc n) t
    here (type_at.Built place) l = built place
    here (type_at.Node j) l = each j (and_parts (is_in xs j) true l).0

-- an order has no more steps than elements
place_within : (ns : List Node) (order : List ℕ) (k : ℕ) → IsOrder ns order → k < length order → is_whole_within (length ns) ns (get_or order k 0) ≡ true
place_within ns order k o less = order_within ns order o.before (length ns) k (omega (arith, less, o.few)) less

-- what a table has of places
abbrev pub Tells : {X : Type 0} → X → (ℕ → X) → List ℕ → List X → Type 0
Tells past all xs table = (i : ℕ) → is_in xs i ≡ true → get_or table i past ≡ all i

pub tells_next : {X : Type 0} (ns : List Node) (past : X) (all : ℕ → X) (order : List ℕ) (k : ℕ) (old new : List X) (x : X) → IsOrder ns order → k < length order → length old ≡ length ns → Tells past all (take k order) old → new ≡ set old (get_or order k 0) x → x ≡ all (get_or order k 0) → Tells past all (take (k + 1) order) new
tells_next ns past all order k old new x o less count each new_is x_is =
    let inside : get_or order k 0 < length old = omega (arith, count, o.there k less) in
    entries_more order old new past all k x less inside new_is x_is each

pub count_next : {X : Type 0} (old new : List X) (n i : ℕ) (x : X) → length old ≡ n → new ≡ set old i x → length new ≡ n
count_next old new n i x count new_is = ap length new_is ∙ length-set old i x ∙ count

-- all places are told of
tells_all : {X : Type 0} (past : X) (all : ℕ → X) (order : List ℕ) (k : ℕ) (table : List X) → length order ≤ k → Tells past all (take k order) table → Tells past all order table
tells_all past all order k table ended each i inside = each i (ap (λ (l : List ℕ). is_in l i) (take_all k order ended) ∙ inside)

-- ---- the types of values
pub values_walk : (ns : List Node) → Walk ns (λ n. value_type_within n ns) (value_by ns)
values_walk ns = record { node = λ n i. refl; built = λ m n place. refl; agree = values_agree ns }

pub value_is : (ns : List Node) (t : TypeAt) → value_type ns t ≡ value_type_within (suc (length ns)) ns t
value_is ns t = let e : length ns + 1 ≡ suc (length ns) = omega arith in ap (λ (k : ℕ). value_type_within k ns t) e

abbrev pub value_of_node : List Node → ℕ → Option TypeAt
value_of_node ns i = value_type ns (type_at.Node i)

abbrev pub TellsValues : List Node → List ℕ → List (Option TypeAt) → Type 0
TellsValues ns xs values = Tells None (value_of_node ns) xs values

-- within the table it doesn't matter what stands behind it
value_within : (ns : List Node) (values : List (Option TypeAt)) (i : ℕ) → i < length values → get_or values i None ≡ value_of_node ns i → value_told values (type_at.Node i) ≡ value_of_node ns i
value_within ns values i inside e = get_or_default values i (Some (type_at.Node i)) None inside ∙ e

pub value_next : (ns : List Node) (order : List ℕ) (k : ℕ) (values : List (Option TypeAt)) → IsOrder ns order → k < length order → length values ≡ length ns → TellsValues ns (take k order) values → value_by ns (value_told values) (get_or order k 0) ≡ value_of_node ns (get_or order k 0)
value_next ns order k values o less count each =
    let i = get_or order k 0 in
    told_next ns (λ n. value_type_within n ns) (value_by ns) (values_walk ns) (value_told values) (take k order) (length ns) i (λ place. refl) known (o.before k less) (place_within ns order k o less) ∙ sym (value_is ns (type_at.Node i))
  where
    known : (j : ℕ) → is_in (take k order) j ≡ true → value_told values (type_at.Node j) ≡ value_type_within (suc (length ns)) ns (type_at.Node j)
    known j among =
        let p = place_among order k j among in
        let there : get_or order p.0 0 < length ns = o.there p.0 p.2 in
        let inside : j < length values = omega (arith, count, there, p.3) in
        value_within ns values j inside (each j among) ∙ value_is ns (type_at.Node j)

-- a place behind all is no complex type
not_complex : (ns : List Node) (i : ℕ) → length ns ≤ i → is_part part.ComplexType (part_in (slice_get ns i)) ≡ false
not_complex ns i le = ap (λ (n : Option Node). is_part part.ComplexType (part_in n)) (slice_get_past ns i le)

values_made : (ns : List Node) (values : List (Option TypeAt)) (order : List ℕ) → IsOrder ns order → length values ≡ length ns → TellsValues ns order values → (t : TypeAt) → is_whole_type ns t ≡ true → value_told values t ≡ value_type ns t
values_made ns values order o count each (type_at.Built place) whole = sym (value_is ns (type_at.Built place))
values_made ns values order o count each (type_at.Node i) whole = elim (cases_lt i (length ns)) [
  | inl less ↦ let inside : i < length values = omega (arith, count, less) in value_within ns values i inside (each i (o.all i less whole))
  | inr le ↦
      let behind : length values ≤ i = omega (arith, count, le) in
      get_or_past values i (Some (type_at.Node i)) behind
      ∙ ap (λ (c : Bool). after_step (value_type_within (length ns) ns) (cond (not c) (step.Ends (Some (type_at.Node i))) (value_derived ns (derivation ns i)))) (sym (not_complex ns i le))
      ∙ sym (value_is ns (type_at.Node i))
]

pub are_values : (ns : List Node) (values : List (Option TypeAt)) (order : List ℕ) (k : ℕ) → IsOrder ns order → length values ≡ length ns → length order ≤ k → TellsValues ns (take k order) values → AreValues ns values
are_values ns values order k o count ended each =
    record { each = values_made ns values order o count (tells_all None (value_of_node ns) order k values ended each) }

-- ---- mixed content
pub mixed_walk : (ns : List Node) → Walk ns (λ n. is_mixed_within n ns) (mixed_by ns)
mixed_walk ns = record { node = λ n i. refl; built = λ m n place. refl; agree = mixed_agree ns }

pub mixed_is : (ns : List Node) (t : TypeAt) → is_mixed_type ns t ≡ is_mixed_within (suc (length ns)) ns t
mixed_is ns t = let e : length ns + 1 ≡ suc (length ns) = omega arith in ap (λ (k : ℕ). is_mixed_within k ns t) e

abbrev pub mixed_of_node : List Node → ℕ → Bool
mixed_of_node ns i = is_mixed_type ns (type_at.Node i)

abbrev pub TellsMixed : List Node → List ℕ → List Bool → Type 0
TellsMixed ns xs mixed = Tells false (mixed_of_node ns) xs mixed

pub mixed_next : (ns : List Node) (order : List ℕ) (k : ℕ) (mixed : List Bool) → IsOrder ns order → k < length order → TellsMixed ns (take k order) mixed → mixed_by ns (mixed_told mixed) (get_or order k 0) ≡ mixed_of_node ns (get_or order k 0)
mixed_next ns order k mixed o less each =
    let i = get_or order k 0 in
    told_next ns (λ n. is_mixed_within n ns) (mixed_by ns) (mixed_walk ns) (mixed_told mixed) (take k order) (length ns) i (λ place. refl) (λ j among. each j among ∙ mixed_is ns (type_at.Node j)) (o.before k less) (place_within ns order k o less)
    ∙ sym (mixed_is ns (type_at.Node i))

mixed_made : (ns : List Node) (mixed : List Bool) (order : List ℕ) → IsOrder ns order → length mixed ≡ length ns → TellsMixed ns order mixed → (t : TypeAt) → is_whole_type ns t ≡ true → mixed_told mixed t ≡ is_mixed_type ns t
mixed_made ns mixed order o count each (type_at.Built place) whole = sym (mixed_is ns (type_at.Built place))
mixed_made ns mixed order o count each (type_at.Node i) whole = elim (cases_lt i (length ns)) [
  | inl less ↦ each i (o.all i less whole)
  | inr le ↦
      let behind : length mixed ≤ i = omega (arith, count, le) in
      get_or_past mixed i false behind
      ∙ ap (λ (c : Bool). c && is_mixed_in ns (is_mixed_within (length ns) ns) i (derivation ns i)) (sym (not_complex ns i le))
      ∙ sym (mixed_is ns (type_at.Node i))
]

pub are_mixed : (ns : List Node) (mixed : List Bool) (order : List ℕ) (k : ℕ) → IsOrder ns order → length mixed ≡ length ns → length order ≤ k → TellsMixed ns (take k order) mixed → AreMixed ns mixed
are_mixed ns mixed order k o count ended each =
    record { each = mixed_made ns mixed order o count (tells_all false (mixed_of_node ns) order k mixed ended each) }
