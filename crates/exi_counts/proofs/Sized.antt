-- What is counted by those within is right where these are, and is there where they are.
use Rattle.std.proofs.Common.{◌≡◌, ℕ, zero, suc, ◌+◌, ◌*◌, ◌<◌, ◌≤◌, ◌==◌, Bool, true, false, cond, ltb, Option, Some, None, inl, inr, List, [], ◌∷◌, length, map, set, refl, sym, ap, ◌∙◌, subst, arith}
use Rattle.std.specs.List.{list_all, slice_get}
use Rattle.std.specs.Option.{is_some}
use Rattle.std.proofs.Math.ListN.{replicate}
use Rattle.std.proofs.Math.Nat.{suc-mul}
use Rattle.std.proofs.lemmas.Bool.{and_parts, cases_eq, cases_lt, false≢true, ltb-true, ne_eqb, true≢false}
use Rattle.std.proofs.lemmas.List.{get_or-set_other, get_or-set_same, length-replicate, length-set}
use Rattle.std.proofs.lemmas.Option.{none-some}
use Rattle.xsd_model.specs.declared.parts.Group.{Group}
use Rattle.xsd_model.specs.declared.parts.Particle.{Particle}
use Rattle.xsd_model.specs.declared.parts.Term.{Term}
use Rattle.xsd_model.specs.declared.parts.Term.TheVariants as term
use Rattle.xsd_model.specs.Parts.{IsSchemaParts, Parts, all_end, particle_in}
use Rattle.exi_counts.specs.Counts.{copied, copies, group_particles, group_states, particle_particles, particle_states, particles_of, states_of, sum_of, term_particles, term_states}
use Rattle.exi_counts.specs.Inner.{inner_at, inner_in, inner_of}
use Rattle.exi_counts.specs.Sizes.{AreSettled, AreSizes, AreWhole, added, copied_size, few, group_size, is_due, known, looked, no_size, one_state, particle_size, sized, sum_size, term_size, told, unknown, with_next}
use Rattle.exi_counts.specs.declared.size.Size.{Size}
use Rattle.exi_counts.proofs.FewSteps.{all_from_both}
use Rattle.exi_counts.proofs.InnerEnds.{inner_below, inner_ends}
use Rattle.exi_counts.proofs.Steps.{particles_of-step, states_of-step}

-- ---- capped numbers
pub few_add : (a b : ℕ) → few (few a + few b) ≡ few (a + b)
few_add a b = omega arith

pub told_add : (a b : ℕ) → told (told a + told b) ≡ told (a + b)
told_add a b = omega arith

few_times : (n a : ℕ) → few (suc n * few a) ≡ few (suc n * a)
few_times n a = elim (cases_lt a 65538) [
  | inl less ↦ let e : few a ≡ a = omega (arith, less) in ap (λ m. few (suc n * m)) e
  | inr le ↦
      let e : few a ≡ 65537 = omega (arith, le) in
      let one = suc-mul n a in
      let most : few (suc n * 65537) ≡ 65537 = let two = suc-mul n 65537 in omega (arith, two) in
      let all : few (suc n * a) ≡ 65537 = omega (arith, one, le) in
      ap (λ m. few (suc n * m)) e ∙ most ∙ sym all
]

added_is : (a b c d : ℕ) → added (sized a b) (sized c d) ≡ sized (a + c) (b + d)
added_is a b c d = ap (λ n. record { states = n; particles = told (told b + told d) }) (few_add a c) ∙ ap (λ n. record { states = few (a + c); particles = n }) (told_add b d)

-- ---- sums
abbrev AreRight : List (Option Size) → (ℕ → ℕ) → (ℕ → ℕ) → Type 0
AreRight sizes f g = (place : ℕ) (size : Size) → known sizes place ≡ Some size → size ≡ sized (f place) (g place)

sum_next : (sizes : List (Option Size)) (f g : ℕ → ℕ) → AreRight sizes f g → (x : ℕ) (total : Size) (a b : ℕ) → total ≡ sized a b → (next : Size → Option Size) (r : Size) (o : Option Size) → known sizes x ≡ o → with_next o (λ size. next (added total size)) ≡ Some r → next (sized (a + f x) (b + g x)) ≡ Some r
sum_next sizes f g right x total a b is next r None at e = absurd (none-some r e)
sum_next sizes f g right x total a b is next r (Some size) at e =
    sym (ap next (ap (λ t. added t size) is ∙ ap (added (sized a b)) (right x size at) ∙ added_is a b (f x) (g x))) ∙ e

sum_right : (sizes : List (Option Size)) (f g : ℕ → ℕ) → AreRight sizes f g → (places : List ℕ) (total : Size) (a b : ℕ) → total ≡ sized a b → (r : Size) → sum_size sizes total places ≡ Some r → r ≡ sized (a + sum_of (map f places)) (b + sum_of (map g places))
sum_right sizes f g right [] total a b is r e =
    let same : total ≡ r = cc in
    let m : a ≡ a + 0 = omega arith in
    let n : b ≡ b + 0 = omega arith in
    sym same ∙ is ∙ ap (λ k. sized k b) m ∙ ap (sized (a + 0)) n
sum_right sizes f g right (x ∷ xs) total a b is r e =
    let m : a + f x + sum_of (map f xs) ≡ a + (f x + sum_of (map f xs)) = omega arith in
    let n : b + g x + sum_of (map g xs) ≡ b + (g x + sum_of (map g xs)) = omega arith in
    sum_right sizes f g right xs (sized (a + f x) (b + g x)) (a + f x) (b + g x) refl r
    (sum_next sizes f g right x total a b is (λ t. sum_size sizes t xs) r (known sizes x) refl e)
    ∙ ap (λ k. sized k (b + g x + sum_of (map g xs))) m ∙ ap (sized (a + (f x + sum_of (map f xs)))) n

from_none : (n m : ℕ) → sized (0 + n) (0 + m) ≡ sized n m
from_none n m =
    let a : 0 + n ≡ n = omega arith in
    let b : 0 + m ≡ m = omega arith in
    ap (λ k. sized k (0 + m)) a ∙ ap (sized n) b

from_one : (n m : ℕ) → sized (1 + n) (0 + m) ≡ sized (suc n) m
from_one n m =
    let a : 1 + n ≡ suc n = omega arith in
    let b : 0 + m ≡ m = omega arith in
    ap (λ k. sized k (0 + m)) a ∙ ap (sized (suc n)) b

-- ---- terms
group_right : (sizes : List (Option Size)) (f g : ℕ → ℕ) → AreRight sizes f g → (o : Option Group) (r : Size) → group_size sizes o ≡ Some r → r ≡ sized (group_states f o) (group_particles g o)
group_right sizes f g right None r e = let same : one_state ≡ r = cc in sym same
group_right sizes f g right (Some x) r e = by x.particle e
  where
    by : (o : Option ℕ) → group_size sizes (Some (record { particle = o; event = x.event })) ≡ Some r → r ≡ sized (group_states f (Some (record { particle = o; event = x.event }))) (group_particles g (Some (record { particle = o; event = x.event })))
    by None e = let same : one_state ≡ r = cc in sym same
    by (Some place) e = right place r e

term_right : (p : Parts) (sizes : List (Option Size)) (f g : ℕ → ℕ) → AreRight sizes f g → (t : Term) (r : Size) → term_size p sizes t ≡ Some r → r ≡ sized (term_states p f t) (term_particles p g t)
term_right p sizes f g right (term.Element element) r e = sym (some_same e)
  where
    some_same : {a b : Size} → Some a ≡ Some b → a ≡ b
    some_same h = cc
term_right p sizes f g right (term.Group group) r e = group_right sizes f g right (slice_get p.groups group) r e
term_right p sizes f g right (term.Sequence []) r e = let same : one_state ≡ r = cc in sym same
term_right p sizes f g right (term.Sequence (x ∷ xs)) r e = sum_right sizes f g right (x ∷ xs) no_size 0 0 refl r e ∙ from_none (f x + sum_of (map f xs)) (g x + sum_of (map g xs))
term_right p sizes f g right (term.Choice places) r e = sum_right sizes f g right places one_state 1 0 refl r e ∙ from_one (sum_of (map f places)) (sum_of (map g places))
term_right p sizes f g right (term.Wild wild) r e = sym (some_same e)
  where
    some_same : {a b : Size} → Some a ≡ Some b → a ≡ b
    some_same h = cc

copied_right : (c a b : ℕ) (s : Size) → s ≡ sized a b → copied_size c s ≡ sized (copied c a) (cond (c == 0) 0 b)
copied_right zero a b s is = refl
copied_right (suc n) a b s is =
    let other : (suc n == 0) ≡ false = ne_eqb (suc n) 0 (λ e. omega (arith, e)) in
    ap (λ q. cond q one_state (record { states = few (suc n * s.states); particles = s.particles })) other
    ∙ ap (λ (z : Size). record { states = few (suc n * z.states); particles = z.particles }) is
    ∙ ap (λ m. record { states = m; particles = told b }) (few_times n a)
    ∙ ap (λ q. sized (suc n * a) (cond q 0 b)) (sym other)

next_right : (c a b : ℕ) (r : Size) (o : Option Size) → ((s : Size) → o ≡ Some s → s ≡ sized a b) → with_next o (λ size. Some (copied_size c size)) ≡ Some r → r ≡ sized (copied c a) (cond (c == 0) 0 b)
next_right c a b r None is e = absurd (none-some r e)
next_right c a b r (Some s) is e = let same : copied_size c s ≡ r = cc in sym same ∙ copied_right c a b s (is s refl)

particle_right : (p : Parts) (sizes : List (Option Size)) (f g : ℕ → ℕ) → AreRight sizes f g → (o : Option Particle) (r : Size) → particle_size p sizes o ≡ Some r → r ≡ sized (particle_states p f o) (particle_particles p g o)
particle_right p sizes f g right None r e = absurd (none-some r e)
particle_right p sizes f g right (Some x) r e =
    next_right (copies x.least x.most) (term_states p f x.term) (term_particles p g x.term) r (term_size p sizes x.term) (λ s h. term_right p sizes f g right x.term s h) e

pub size_right : (p : Parts) → IsSchemaParts p → (sizes : List (Option Size)) → AreSizes p sizes → (place : ℕ) → place < length p.particles → (r : Size) → particle_size p sizes (slice_get p.particles place) ≡ Some r → r ≡ sized (states_of p place) (particles_of p place)
size_right p is sizes are place less r e =
    particle_right p sizes (states_of p) (particles_of p) are.each (slice_get p.particles place) r e
    ∙ sym (ap (λ n. sized n (particles_of p place)) (states_of-step p is place less) ∙ ap (sized (particle_states p (states_of p) (slice_get p.particles place))) (particles_of-step p is place less))

-- ---- where all within are known
abbrev is_known : List (Option Size) → ℕ → Bool
is_known sizes place = is_some (known sizes place)

sum_next_known : (o : Option Size) (next : Size → Option Size) → is_some o ≡ true → ((s : Size) → is_some (next s) ≡ true) → is_some (with_next o next) ≡ true
sum_next_known None next e h = absurd (false≢true e)
sum_next_known (Some s) next e h = h s

sum_known : (sizes : List (Option Size)) (places : List ℕ) (total : Size) → list_all (is_known sizes) places ≡ true → is_some (sum_size sizes total places) ≡ true
sum_known sizes [] total all = refl
sum_known sizes (x ∷ xs) total all =
    let both = and_parts (is_known sizes x) (list_all (is_known sizes) xs) all in
    sum_next_known (known sizes x) (λ size. sum_size sizes (added total size) xs) both.0 (λ s. sum_known sizes xs (added total s) both.1)

group_known : (sizes : List (Option Size)) (o : Option Group) → list_all (is_known sizes) (particle_in o) ≡ true → is_some (group_size sizes o) ≡ true
group_known sizes None all = refl
group_known sizes (Some x) all = by x.particle all
  where
    by : (o : Option ℕ) → list_all (is_known sizes) (particle_in (Some (record { particle = o; event = x.event }))) ≡ true → is_some (group_size sizes (Some (record { particle = o; event = x.event }))) ≡ true
    by None all = refl
    by (Some place) all = (and_parts (is_known sizes place) true all).0

term_known : (p : Parts) (sizes : List (Option Size)) (t : Term) → list_all (is_known sizes) (inner_of p t) ≡ true → is_some (term_size p sizes t) ≡ true
term_known p sizes (term.Element element) all = refl
term_known p sizes (term.Group group) all = group_known sizes (slice_get p.groups group) all
term_known p sizes (term.Sequence []) all = refl
term_known p sizes (term.Sequence (x ∷ xs)) all = sum_known sizes (x ∷ xs) no_size all
term_known p sizes (term.Choice places) all = sum_known sizes places one_state all
term_known p sizes (term.Wild wild) all = refl

slot_is_there : {X : Type 0} (xs : List X) (i : ℕ) → i < length xs → is_some (slice_get xs i) ≡ true
slot_is_there [] i less = absurd (omega (arith, less))
slot_is_there (x ∷ xs) zero less = refl
slot_is_there (x ∷ xs) (suc i) less = slot_is_there xs i (omega (arith, less))

particle_known : (p : Parts) (sizes : List (Option Size)) (o : Option Particle) → is_some o ≡ true → list_all (is_known sizes) (inner_in p o) ≡ true → is_some (particle_size p sizes o) ≡ true
particle_known p sizes None there all = absurd (false≢true there)
particle_known p sizes (Some x) there all = sum_next_known (term_size p sizes x.term) (λ size. Some (copied_size (copies x.least x.most) size)) (term_known p sizes x.term all) (λ s. refl)

-- ---- where none is due, all are known
not_due : (a b : Bool) → cond a false b ≡ false → b ≡ true → a ≡ true
not_due true b e h = refl
not_due false b e h = absurd (true≢false (sym h ∙ e))

settled_known : (p : Parts) → IsSchemaParts p → (sizes : List (Option Size)) → AreSettled p sizes → (n place : ℕ) → place < length p.particles → all_end (inner_at p) n place ≡ true → is_known sizes place ≡ true
settled_known p is sizes settled zero place less e = absurd (false≢true e)
settled_known p is sizes settled (suc n) place less e =
    not_due (is_known sizes place) (is_some (particle_size p sizes (slice_get p.particles place))) (settled place less)
    (particle_known p sizes (slice_get p.particles place) (slot_is_there p.particles place less)
    (all_from_both (λ y. ltb y (length p.particles)) (all_end (inner_at p) n) (is_known sizes) (inner_at p place)
    (λ y there f. settled_known p is sizes settled n y (ltb-true y (length p.particles) there) f) (inner_below p is place) e))

pub settled_whole : (p : Parts) → IsSchemaParts p → (sizes : List (Option Size)) → AreSizes p sizes → AreSettled p sizes → AreWhole p sizes
settled_whole p is sizes are settled place less = by (known sizes place) refl (settled_known p is sizes settled (suc (length p.particles)) place less (inner_ends p is place less))
  where
    by : (o : Option Size) → known sizes place ≡ o → is_some o ≡ true → o ≡ Some (sized (states_of p place) (particles_of p place))
    by None at some = absurd (false≢true some)
    by (Some size) at some = ap Some (are.each place size at)

-- ---- one look
set_right : (p : Parts) (sizes : List (Option Size)) (place : ℕ) (o : Option Size) → AreSizes p sizes → place < length p.particles → ((r : Size) → o ≡ Some r → r ≡ sized (states_of p place) (particles_of p place)) → AreSizes p (set sizes place o)
set_right p sizes place o are less right = record {
  count = length-set sizes place o ∙ are.count;
  each = λ i size at. elim (cases_eq i place) [
    | inl e ↦
        let few = are.count in
        let here : known (set sizes place o) i ≡ o = ap (known (set sizes place o)) e ∙ get_or-set_same sizes place o None (omega (arith, less, few)) in
        subst (λ k. size ≡ sized (states_of p k) (particles_of p k)) (sym e) (right size (sym here ∙ at))
    | inr n ↦ are.each i size (sym (get_or-set_other sizes place i o None n) ∙ at)
  ];
}

pub looked_right : (p : Parts) → IsSchemaParts p → (sizes : List (Option Size)) (place : ℕ) → place < length p.particles → AreSizes p sizes → AreSizes p (looked p sizes place)
looked_right p is sizes place less are = by (is_due p sizes place)
  where
    by : (b : Bool) → AreSizes p (cond b (set sizes place (particle_size p sizes (slice_get p.particles place))) sizes)
    by true = set_right p sizes place (particle_size p sizes (slice_get p.particles place)) are less (λ r e. size_right p is sizes are place less r e)
    by false = are

pub looked_same : (p : Parts) (sizes : List (Option Size)) (place : ℕ) → is_due p sizes place ≡ false → looked p sizes place ≡ sizes
looked_same p sizes place e = ap (λ b. cond b (set sizes place (particle_size p sizes (slice_get p.particles place))) sizes) e

unknown_set : (sizes : List (Option Size)) (place : ℕ) (o : Option Size) → place < length sizes → is_some (known sizes place) ≡ false → is_some o ≡ true → unknown (set sizes place o) < unknown sizes
unknown_set [] place o less none some = absurd (omega (arith, less))
unknown_set (None ∷ sizes) zero None less none some = absurd (false≢true some)
unknown_set (None ∷ sizes) zero (Some s) less none some = omega arith
unknown_set (Some t ∷ sizes) zero o less none some = absurd (true≢false none)
unknown_set (None ∷ sizes) (suc i) o less none some = let h = unknown_set sizes i o (omega (arith, less)) none some in omega (arith, h)
unknown_set (Some t ∷ sizes) (suc i) o less none some = unknown_set sizes i o (omega (arith, less)) none some

due_parts : (a b : Bool) → cond a false b ≡ true → (a ≡ false) × (b ≡ true)
due_parts true b e = absurd (false≢true e)
due_parts false b e = (refl, e)

pub looked_fewer : (p : Parts) (sizes : List (Option Size)) (place : ℕ) → place < length sizes → is_due p sizes place ≡ true → unknown (looked p sizes place) < unknown sizes
looked_fewer p sizes place less due =
    let both = due_parts (is_known sizes place) (is_some (particle_size p sizes (slice_get p.particles place))) due in
    subst (λ b. unknown (cond b (set sizes place (particle_size p sizes (slice_get p.particles place))) sizes) < unknown sizes) (sym due)
    (unknown_set sizes place (particle_size p sizes (slice_get p.particles place)) less both.0 both.1)

-- ---- a look at one after another
pub due_or_not : (p : Parts) (old new : List (Option Size)) (place most : ℕ) → new ≡ looked p old place → is_due p old place ≡ true → place < length old → unknown old ≤ most → unknown new < most
due_or_not p old new place most new_is due less few =
    let fewer = looked_fewer p old place less due in
    let same : unknown new ≡ unknown (looked p old place) = ap unknown new_is in
    omega (arith, fewer, same, few)

pub none_due : (p : Parts) (old new : List (Option Size)) (place : ℕ) → new ≡ looked p old place → is_due p old place ≡ false → ((i : ℕ) → i < place → is_due p old i ≡ false) → (i : ℕ) → i < place + 1 → is_due p new i ≡ false
none_due p old new place new_is not before i less =
    ap (λ l. is_due p l i) (new_is ∙ looked_same p old place not) ∙ elim (cases_eq i place) [
      | inl e ↦ ap (is_due p old) e ∙ not
      | inr n ↦ before i (omega (arith, less, n))
    ]

-- ---- none is known yet
none_known : (n place : ℕ) → known (replicate n None) place ≡ None
none_known zero place = refl
none_known (suc n) zero = refl
none_known (suc n) (suc place) = none_known n place

pub none_right : (p : Parts) (sizes : List (Option Size)) (n : ℕ) → sizes ≡ replicate n None → n ≡ length p.particles → AreSizes p sizes
none_right p sizes n is count = record {
  count = ap length is ∙ length-replicate n None ∙ count;
  each = λ place size at. absurd (none-some size (sym (none_known n place) ∙ ap (λ l. known l place) (sym is) ∙ at));
}
