-- The steps of each element, with those of the groups that stand before a place.
use Rattle.std.proofs.Common.{◌≡◌, ℕ, ◌+◌, ◌<◌, Bool, true, false, cond, Option, Some, None, inl, inr, List, [], ◌∷◌, ◌++◌, filter, get_or, length, map, take, refl, sym, ap, ◌∙◌, arith}
use Rattle.std.specs.List.{flat_map}
use Rattle.std.proofs.lemmas.Bool.{cases_eq, eq-eqb, ne_eqb}
use Rattle.std.proofs.lemmas.List.{append-nil, append_assoc, get_or-set_other, get_or_append_left, get_or_push, length-append, length-set, map-append, take_more}
use Rattle.std.proofs.lemmas.Grind.{flat_map-append, get_or-set_at}
use Rattle.std.proofs.lemmas.List.Elements.{filter-append}
use Rattle.xsd_tree.specs.declared.node.Node.{Node}
use Rattle.xsd_nodes.specs.Nodes.{is_at, is_global, is_place}
use Rattle.xsd_nodes.specs.declared.part.Part.TheVariants as part
use Rattle.xsd_components.specs.declared.type_at.TypeAt.{TypeAt}
use Rattle.xsd_document.proofs.Below.{below, below_more, below_zero, places_are}
use Rattle.xsd_steps.specs.Groups.{group_named}
use Rattle.xsd_steps.specs.Steps.{step_to, steps}
use Rattle.xsd_steps.specs.Table.{AreOwnSteps, AreSteps, namer, own_steps, owner, put}
use Rattle.xsd_steps.proofs.Groups.{is_led, steps_are}

abbrev pub steps_below : List Node → ℕ → ℕ → List (Option ℕ)
steps_below ns j i = own_steps ns i ++ map (group_named ns) (filter (is_led ns i) (below j))

pub steps_none : (ns : List Node) (i : ℕ) → own_steps ns i ≡ steps_below ns 0 i
steps_none ns i = sym (append-nil (own_steps ns i)) ∙ ap (λ (l : List ℕ). own_steps ns i ++ map (group_named ns) (filter (is_led ns i) l)) (sym below_zero)

pub steps_more : (ns : List Node) (j i : ℕ) → steps_below ns (j + 1) i ≡ steps_below ns j i ++ map (group_named ns) (filter (is_led ns i) (j ∷ []))
steps_more ns j i =
    let own = own_steps ns i in
    let name = group_named ns in
    let old = filter (is_led ns i) (below j) in
    let one = filter (is_led ns i) (j ∷ []) in
    ap (λ (l : List ℕ). own ++ map name (filter (is_led ns i) l)) (below_more j)
    ∙ ap (λ (l : List ℕ). own ++ map name l) (filter-append (is_led ns i) (below j) (j ∷ []))
    ∙ ap (λ (l : List (Option ℕ)). own ++ l) (map-append name old one)
    ∙ sym (append_assoc own (map name old) (map name one))

pub steps_all : (ns : List Node) (i : ℕ) → steps_below ns (length ns) i ≡ steps ns i
steps_all ns i =
    ap (λ (l : List ℕ). own_steps ns i ++ map (group_named ns) (filter (is_led ns i) l)) (sym (places_are ns))
    ∙ steps_are ns i (is_at ns part.Group i) (is_global ns i) refl refl

-- ---- one more group that is named
pub one_named : (f : ℕ → Option ℕ) (b : Bool) (j : ℕ) → map f (cond b (j ∷ []) []) ≡ cond b (f j ∷ []) []
one_named f true j = refl
one_named f false j = refl

pub put_one : (to named : Option ℕ) (lists : List (List (Option ℕ))) (i : ℕ) → i < length lists → get_or (put to named lists) i [] ≡ get_or lists i [] ++ cond (is_place i to) (named ∷ []) []
put_one None named lists i less = sym (append-nil (get_or lists i []))
put_one (Some k) named lists i less =
    let more = get_or lists k [] ++ named ∷ [] in elim (cases_eq i k) [
      | inl e ↦
          let inside : k < length lists = omega (arith, e, less) in
          get_or-set_at lists k i more [] e inside
          ∙ ap (λ (n : ℕ). get_or lists n [] ++ named ∷ []) (sym e)
          ∙ ap (λ (b : Bool). get_or lists i [] ++ cond b (named ∷ []) []) (sym (eq-eqb i k e))
      | inr n ↦
          get_or-set_other lists k i more [] n
          ∙ sym (append-nil (get_or lists i []))
          ∙ ap (λ (b : Bool). get_or lists i [] ++ cond b (named ∷ []) []) (sym (ne_eqb i k n))
    ]

pub put_count : (to named : Option ℕ) (lists : List (List (Option ℕ))) → length (put to named lists) ≡ length lists
put_count None named lists = refl
put_count (Some k) named lists = length-set lists k (get_or lists k [] ++ named ∷ [])

pub put_next : (ns : List Node) (lists new : List (List (Option ℕ))) (to : Option ℕ) (j : ℕ) → to ≡ namer ns j (owner ns j) → length lists ≡ length ns → ((i : ℕ) → i < length ns → get_or lists i [] ≡ steps_below ns j i) → new ≡ put to (group_named ns j) lists → (i : ℕ) → i < length ns → get_or new i [] ≡ steps_below ns (j + 1) i
put_next ns lists new to j to_is count each new_is i less =
    let inside : i < length lists = omega (arith, count, less) in
    let name = group_named ns in
    ap (λ (l : List (List (Option ℕ))). get_or l i []) new_is
    ∙ put_one to (name j) lists i inside
    ∙ ap (λ (o : Option ℕ). get_or lists i [] ++ cond (is_place i o) (name j ∷ []) []) to_is
    ∙ ap (λ (l : List (Option ℕ)). l ++ cond (is_led ns i j) (name j ∷ []) []) (each i less)
    ∙ ap (λ (l : List (Option ℕ)). steps_below ns j i ++ l) (sym (one_named name (is_led ns i j) j))
    ∙ sym (steps_more ns j i)

pub made : (ns : List Node) (lists : List (List (Option ℕ))) (j : ℕ) → length lists ≡ length ns → ((i : ℕ) → i < length ns → get_or lists i [] ≡ steps_below ns j i) → j ≡ length ns → AreSteps ns lists
made ns lists j count each j_is = record { count = count; each = λ i less. each i less ∙ ap (λ (k : ℕ). steps_below ns k i) j_is ∙ steps_all ns i }

-- ---- one more element's own
pub own_next : (ns : List Node) (lists new : List (List (Option ℕ))) (j : ℕ) (r : List (Option ℕ)) → length lists ≡ j → ((i : ℕ) → i < j → get_or lists i [] ≡ own_steps ns i) → r ≡ own_steps ns j → new ≡ lists ++ r ∷ [] → (i : ℕ) → i < j + 1 → get_or new i [] ≡ own_steps ns i
own_next ns lists new j r count each r_is new_is i less =
    ap (λ (l : List (List (Option ℕ))). get_or l i []) new_is ∙ elim (cases_eq i j) [
      | inl e ↦
          let here : length lists ≡ i = omega (arith, count, e) in
          get_or_push lists r [] i here ∙ r_is ∙ ap (own_steps ns) (sym e)
      | inr n ↦
          let earlier : i < j = omega (arith, n, less) in
          let inside : i < length lists = omega (arith, count, earlier) in
          get_or_append_left lists (r ∷ []) [] i inside ∙ each i earlier
    ]

pub own_count : (lists new : List (List (Option ℕ))) (j : ℕ) (r : List (Option ℕ)) → length lists ≡ j → new ≡ lists ++ r ∷ [] → length new ≡ j + 1
own_count lists new j r count new_is = ap length new_is ∙ length-append lists (r ∷ []) ∙ ap (λ (k : ℕ). k + 1) count

pub own_all : (ns : List Node) (lists : List (List (Option ℕ))) (n : ℕ) → length lists ≡ n → n ≡ length ns → ((i : ℕ) → i < n → get_or lists i [] ≡ own_steps ns i) → AreOwnSteps ns lists
own_all ns lists n count n_is each = record { count = count ∙ n_is; each = λ i less. let inside : i < n = omega (arith, n_is, less) in each i inside }

-- ---- the steps to what a type is derived from
pub types_more : (d : Option TypeAt) (types : List (Option TypeAt)) (i : ℕ) (old new : List (Option ℕ)) → i < length types → old ≡ flat_map step_to (take i types) → new ≡ old ++ step_to (get_or types i d) → new ≡ flat_map step_to (take (i + 1) types)
types_more d types i old new less old_is new_is =
    new_is
    ∙ ap (λ (l : List (Option ℕ)). l ++ step_to (get_or types i d)) old_is
    ∙ ap (λ (l : List (Option ℕ)). flat_map step_to (take i types) ++ l) (sym (append-nil (step_to (get_or types i d))))
    ∙ sym (flat_map-append step_to (take i types) (get_or types i d ∷ []))
    ∙ ap (flat_map step_to) (sym (take_more types i d less))
