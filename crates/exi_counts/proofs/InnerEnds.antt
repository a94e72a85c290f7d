-- No particle lies within itself.
use Rattle.std.proofs.Common.{◌≡◌, ℕ, zero, suc, ◌+◌, ◌<◌, ◌≤◌, Bool, true, ltb, Option, Some, None, List, [], ◌∷◌, ◌++◌, All, length, get_or, refl, sym, subst, arith}
use Rattle.std.specs.List.{flat_map, list_all, slice_get}
use Rattle.std.specs.Option.{option_to_list}
use Rattle.std.proofs.lemmas.Bool.{and_from, and_parts, false≢true, lt-ltb, ltb-true}
use Rattle.std.proofs.lemmas.List.Elements.{All-head, All-tail, All-weaker}
use Rattle.xsd_model.specs.declared.parts.Group.{Group}
use Rattle.xsd_model.specs.declared.parts.Particle.{Particle}
use Rattle.xsd_model.specs.declared.parts.Term.{Term}
use Rattle.xsd_model.specs.declared.parts.Term.TheVariants as term
use Rattle.xsd_model.specs.Parts.{AreParticles, IsBelow, IsParticle, IsSchemaParts, IsTerm, IsWithin, Parts, all_end, groups_at, named_by, named_within, particle_in}
use Rattle.exi_counts.specs.Inner.{inner_at, inner_in, inner_of}
use Rattle.exi_counts.specs.Sizes.{IsTermBelow}
use Rattle.exi_counts.proofs.FewSteps.{all_from, all_from_both, ends_more, few_steps}

-- ---- slots
pub slot_there : {X : Type 0} (xs : List X) (i : ℕ) (x : X) → slice_get xs i ≡ Some x → (i < length xs) × (get_or xs i x ≡ x)
slot_there [] i x e = absurd cc
slot_there (y ∷ ys) zero x e = let f : y ≡ x = cc in (omega arith, f)
slot_there (y ∷ ys) (suc i) x e = let r = slot_there ys i x e in (omega (arith, r.0), r.1)

pub slot_past : {X : Type 0} (xs : List X) (i : ℕ) → length xs ≤ i → slice_get xs i ≡ None
slot_past [] i le = refl
slot_past (x ∷ xs) zero le = absurd (omega (arith, le))
slot_past (x ∷ xs) (suc i) le = slot_past xs i (omega (arith, le))

pub a_particle : (p : Parts) (n : ℕ) (xs : List Particle) (i : ℕ) (x : Particle) → AreParticles p n xs → slice_get xs i ≡ Some x → IsParticle p (n + i) x
a_particle p n [] i x are e = absurd cc
a_particle p n (y ∷ ys) zero x are e =
    let at : n ≡ n + 0 = omega arith in
    let f : y ≡ x = cc in
    subst (λ k. IsParticle p k x) at (subst (IsParticle p n) f are.0)
a_particle p n (y ∷ ys) (suc i) x are e =
    let at : suc n + i ≡ n + suc i = omega arith in
    subst (λ k. IsParticle p k x) at (a_particle p (suc n) ys i x are.1 e)

pub term_of : (p : Parts) → IsSchemaParts p → (place : ℕ) (x : Particle) → slice_get p.particles place ≡ Some x → IsTerm p place x.term
term_of p is place x e =
    let at : 0 + place ≡ place = omega arith in
    subst (λ k. IsTerm p k x.term) at (a_particle p 0 p.particles place x is.particles e).term_is

-- ---- the particles within one are there
below_of : (most : ℕ) (places : List ℕ) (place : ℕ) → All (IsWithin place most) places → list_all (λ y. ltb y most) places ≡ true
below_of most [] place all = refl
below_of most (y ∷ ys) place all =
    let here : IsWithin place most y = All-head (IsWithin place most) y ys all in
    and_from (ltb y most) (list_all (λ y. ltb y most) ys) (lt-ltb y most here.1) (below_of most ys place (All-tail (IsWithin place most) y ys all))

below_any : (most : ℕ) (o : Option ℕ) → IsBelow most o → list_all (λ y. ltb y most) (option_to_list o) ≡ true
below_any most None below = refl
below_any most (Some y) below = and_from (ltb y most) true (lt-ltb y most below) refl

pub group_below : (p : Parts) → IsSchemaParts p → (group : ℕ) → list_all (λ y. ltb y (length p.particles)) (particle_in (slice_get p.groups group)) ≡ true
group_below p is group = by (slice_get p.groups group) refl
  where
    by : (o : Option Group) → slice_get p.groups group ≡ o → list_all (λ y. ltb y (length p.particles)) (particle_in o) ≡ true
    by None e = refl
    by (Some g) e =
        let slot = slot_there p.groups group g e in
        below_any (length p.particles) g.particle (subst (λ h. IsBelow (length p.particles) h.particle) slot.1 (is.groups group g slot.0))

below_term : (p : Parts) → IsSchemaParts p → (place : ℕ) (t : Term) → IsTerm p place t → list_all (λ y. ltb y (length p.particles)) (inner_of p t) ≡ true
below_term p is place (term.Element element) it = refl
below_term p is place (term.Group group) it = group_below p is group
below_term p is place (term.Sequence places) it = below_of (length p.particles) places place it
below_term p is place (term.Choice places) it = below_of (length p.particles) places place it
below_term p is place (term.Wild wild) it = refl

pub inner_below : (p : Parts) → IsSchemaParts p → (place : ℕ) → list_all (λ y. ltb y (length p.particles)) (inner_at p place) ≡ true
inner_below p is place = by (slice_get p.particles place) refl
  where
    by : (o : Option Particle) → slice_get p.particles place ≡ o → list_all (λ y. ltb y (length p.particles)) (inner_in p o) ≡ true
    by None e = refl
    by (Some x) e = below_term p is place x.term (term_of p is place x e)

-- ---- what a list of lists has
all_flat : (test : ℕ → Bool) (f : ℕ → List ℕ) (xs : List ℕ) → list_all test (flat_map f xs) ≡ true → list_all (λ x. list_all test (f x)) xs ≡ true
all_flat test f [] all = refl
all_flat test f (x ∷ xs) all =
    let both = split (f x) (flat_map f xs) all in
    and_from (list_all test (f x)) (list_all (λ x. list_all test (f x)) xs) both.0 (all_flat test f xs both.1)
  where
    split : (ys zs : List ℕ) → list_all test (ys ++ zs) ≡ true → (list_all test ys ≡ true) × (list_all test zs ≡ true)
    split [] zs all = (refl, all)
    split (y ∷ ys) zs all =
        let both = and_parts (test y) (list_all test (ys ++ zs)) all in
        let rest = split ys zs both.1 in
        (and_from (test y) (list_all test ys) both.0 rest.0, rest.1)

flat_all : (test : ℕ → Bool) (f : ℕ → List ℕ) (xs : List ℕ) → list_all (λ x. list_all test (f x)) xs ≡ true → list_all test (flat_map f xs) ≡ true
flat_all test f [] all = refl
flat_all test f (x ∷ xs) all =
    let both = and_parts (list_all test (f x)) (list_all (λ x. list_all test (f x)) xs) all in
    join (f x) (flat_map f xs) both.0 (flat_all test f xs both.1)
  where
    join : (ys zs : List ℕ) → list_all test ys ≡ true → list_all test zs ≡ true → list_all test (ys ++ zs) ≡ true
    join [] zs a b = b
    join (y ∷ ys) zs a b =
        let both = and_parts (test y) (list_all test ys) a in
        and_from (test y) (list_all test (ys ++ zs)) both.0 (join ys zs both.1 b)

-- ---- the groups that a particle names are there
all_within : (f : ℕ → Bool) (place most : ℕ) (places : List ℕ) → ((y : ℕ) → y < most → place < y → f y ≡ true) → All (IsWithin place most) places → list_all f places ≡ true
all_within f place most [] h all = refl
all_within f place most (y ∷ ys) h all =
    let here : IsWithin place most y = All-head (IsWithin place most) y ys all in
    and_from (f y) (list_all f ys) (h y here.1 here.0) (all_within f place most ys h (All-tail (IsWithin place most) y ys all))

named_term : (p : Parts) (test : ℕ → Bool) → ((g : ℕ) → g < length p.groups → test g ≡ true) → (within : ℕ → List ℕ) → ((y : ℕ) → list_all test (within y) ≡ true) → (place : ℕ) (x : Particle) → IsTerm p place x.term → list_all test (named_by within (Some x)) ≡ true
named_term p test groups within before place x it = by x.term it
  where
    by : (t : Term) → IsTerm p place t → list_all test (named_by within (Some (record { least = x.least; most = x.most; term = t }))) ≡ true
    by (term.Element element) it = refl
    by (term.Group group) it = and_from (test group) true (groups group it) refl
    by (term.Sequence places) it = flat_all test within places (all_within (λ y. list_all test (within y)) place (length p.particles) places (λ y less more. before y) it)
    by (term.Choice places) it = flat_all test within places (all_within (λ y. list_all test (within y)) place (length p.particles) places (λ y less more. before y) it)
    by (term.Wild wild) it = refl

named_slot : (p : Parts) → IsSchemaParts p → (test : ℕ → Bool) → ((g : ℕ) → g < length p.groups → test g ≡ true) → (within : ℕ → List ℕ) → ((y : ℕ) → list_all test (within y) ≡ true) → (place : ℕ) (o : Option Particle) → slice_get p.particles place ≡ o → list_all test (named_by within o) ≡ true
named_slot p is test groups within before place None e = refl
named_slot p is test groups within before place (Some x) e = named_term p test groups within before place x (term_of p is place x e)

named_pass : (p : Parts) → IsSchemaParts p → (test : ℕ → Bool) → ((g : ℕ) → g < length p.groups → test g ≡ true) → (n place : ℕ) → list_all test (named_within n p.particles place) ≡ true
named_pass p is test groups zero place = refl
named_pass p is test groups (suc n) place = named_slot p is test groups (named_within n p.particles) (λ y. named_pass p is test groups n y) place (slice_get p.particles place) refl

-- ---- within a particle, down to the groups that it names
abbrev deeper : ℕ → ℕ → ℕ
deeper zero k = k
deeper (suc n) k = suc (deeper n k)

not_less : (n k : ℕ) → k ≤ deeper n k
not_less zero k = omega arith
not_less (suc n) k = let le = not_less n k in omega (arith, le)

-- in the particles of the groups that pass, each path ends within k steps
abbrev GroupsEnd : Parts → (ℕ → Bool) → ℕ → Type 0
GroupsEnd p test k = (g : ℕ) → test g ≡ true → list_all (all_end (inner_at p) k) (particle_in (slice_get p.groups g)) ≡ true

abbrev LevelEnds : Parts → (ℕ → Bool) → ℕ → ℕ → ℕ → Type 0
LevelEnds p test n k place = (y : ℕ) → place < y → y < length p.particles → list_all test (named_within n p.particles y) ≡ true → all_end (inner_at p) (deeper n k) y ≡ true

each_level : (p : Parts) (test : ℕ → Bool) (n k place : ℕ) → LevelEnds p test n k place → (ys : List ℕ) → All (IsWithin place (length p.particles)) ys → list_all (λ y. list_all test (named_within n p.particles y)) ys ≡ true → list_all (all_end (inner_at p) (deeper n k)) ys ≡ true
each_level p test n k place before [] inside all = refl
each_level p test n k place before (y ∷ ys) inside all =
    let here : IsWithin place (length p.particles) y = All-head (IsWithin place (length p.particles)) y ys inside in
    let both = and_parts (list_all test (named_within n p.particles y)) (list_all (λ y. list_all test (named_within n p.particles y)) ys) all in
    and_from (all_end (inner_at p) (deeper n k) y) (list_all (all_end (inner_at p) (deeper n k)) ys)
    (before y here.0 here.1 both.0)
    (each_level p test n k place before ys (All-tail (IsWithin place (length p.particles)) y ys inside) both.1)

level_term : (p : Parts) (test : ℕ → Bool) (n k place : ℕ) → GroupsEnd p test k → LevelEnds p test n k place → (x : Particle) → IsTerm p place x.term → list_all test (named_by (named_within n p.particles) (Some x)) ≡ true → list_all (all_end (inner_at p) (deeper n k)) (inner_of p x.term) ≡ true
level_term p test n k place groups before x it all = by x.term it all
  where
    by : (t : Term) → IsTerm p place t → list_all test (named_by (named_within n p.particles) (Some (record { least = x.least; most = x.most; term = t }))) ≡ true → list_all (all_end (inner_at p) (deeper n k)) (inner_of p t) ≡ true
    by (term.Element element) it all = refl
    by (term.Group group) it all =
        all_from (all_end (inner_at p) k) (all_end (inner_at p) (deeper n k)) (particle_in (slice_get p.groups group)) (λ y e. ends_more (inner_at p) k (deeper n k) y (not_less n k) e)
        (groups group (and_parts (test group) true all).0)
    by (term.Sequence places) it all = each_level p test n k place before places it (all_flat test (named_within n p.particles) places all)
    by (term.Choice places) it all = each_level p test n k place before places it (all_flat test (named_within n p.particles) places all)
    by (term.Wild wild) it all = refl

level_slot : (p : Parts) → IsSchemaParts p → (test : ℕ → Bool) (n k place : ℕ) → GroupsEnd p test k → LevelEnds p test n k place → (o : Option Particle) → slice_get p.particles place ≡ o → list_all test (named_by (named_within n p.particles) o) ≡ true → list_all (all_end (inner_at p) (deeper n k)) (inner_in p o) ≡ true
level_slot p is test n k place groups before None e all = refl
level_slot p is test n k place groups before (Some x) e all = level_term p test n k place groups before x (term_of p is place x e) all

level : (p : Parts) → IsSchemaParts p → (test : ℕ → Bool) (k : ℕ) → GroupsEnd p test k → (n place : ℕ) → place < length p.particles → length p.particles ≤ n + place → list_all test (named_within n p.particles place) ≡ true → all_end (inner_at p) (deeper n k) place ≡ true
level p is test k groups zero place less deep all = absurd (omega (arith, less, deep))
level p is test k groups (suc n) place less deep all =
    level_slot p is test n k place groups (λ y more there passes. level p is test k groups n y there (omega (arith, deep, more)) passes) (slice_get p.particles place) refl all

-- ---- and on within those
abbrev depth : Parts → ℕ → ℕ
depth p zero = 0
depth p (suc m) = deeper (length p.particles) (depth p m)

group_ends : (p : Parts) → IsSchemaParts p → (m : ℕ) → GroupsEnd p (all_end (groups_at p) m) (depth p m)
group_ends p is zero g e = absurd (false≢true e)
group_ends p is (suc m) g e =
    all_from_both (λ y. ltb y (length p.particles)) (λ y. list_all (all_end (groups_at p) m) (named_within (length p.particles) p.particles y)) (all_end (inner_at p) (depth p (suc m))) (particle_in (slice_get p.groups g))
    (λ y there passes. level p is (all_end (groups_at p) m) (depth p m) (group_ends p is m) (length p.particles) y (ltb-true y (length p.particles) there) (omega arith) passes)
    (group_below p is g)
    (all_flat (all_end (groups_at p) m) (named_within (length p.particles) p.particles) (particle_in (slice_get p.groups g)) e)

deep_ends : (p : Parts) → IsSchemaParts p → (place : ℕ) → place < length p.particles → all_end (inner_at p) (depth p (suc (length p.groups))) place ≡ true
deep_ends p is place less =
    level p is (all_end (groups_at p) (length p.groups)) (depth p (length p.groups)) (group_ends p is (length p.groups)) (length p.particles) place less (omega arith)
    (named_pass p is (all_end (groups_at p) (length p.groups)) (λ g there. is.group_names g there) (length p.particles) place)

-- so no path is longer than there are particles
pub few_ends : (p : Parts) → IsSchemaParts p → (place : ℕ) → place < length p.particles → all_end (inner_at p) (length p.particles) place ≡ true
few_ends p is place less =
    few_steps (inner_at p) (λ y. ltb y (length p.particles)) (length p.particles)
    (λ y e. ltb-true y (length p.particles) e)
    (λ y e. inner_below p is y)
    (λ y there. lt-ltb y (length p.particles) there)
    (depth p (suc (length p.groups))) place (lt-ltb place (length p.particles) less) (deep_ends p is place less)

pub inner_ends : (p : Parts) → IsSchemaParts p → (place : ℕ) → place < length p.particles → all_end (inner_at p) (suc (length p.particles)) place ≡ true
inner_ends p is place less = ends_more (inner_at p) (length p.particles) (suc (length p.particles)) place (omega arith) (few_ends p is place less)

-- ---- the particles of a term are there
pub term_below : (p : Parts) → IsSchemaParts p → (place most : ℕ) (t : Term) → most ≡ length p.particles → IsTerm p place t → IsTermBelow p most t
term_below p is place most (term.Element element) e it = it
term_below p is place most (term.Group group) e it = (it, subst (λ n. All (λ (g : Group). IsBelow n g.particle) p.groups) (sym e) is.groups)
term_below p is place most (term.Sequence places) e it = All-weaker (IsWithin place (length p.particles)) (λ y. y < most) (λ y h. subst (λ n. y < n) (sym e) h.1) places it
term_below p is place most (term.Choice places) e it = All-weaker (IsWithin place (length p.particles)) (λ y. y < most) (λ y h. subst (λ n. y < n) (sym e) h.1) places it
term_below p is place most (term.Wild wild) e it = tt

pub slot_is : {X : Type 0} (xs : List X) (i : ℕ) (d : X) → i < length xs → slice_get xs i ≡ Some (get_or xs i d)
slot_is [] i d less = absurd (omega (arith, less))
slot_is (x ∷ xs) zero d less = refl
slot_is (x ∷ xs) (suc i) d less = slot_is xs i d (omega (arith, less))
