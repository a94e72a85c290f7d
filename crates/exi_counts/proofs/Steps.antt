-- What a particle counts, by what those directly within it do.
use Rattle.std.proofs.Common.{◌≡◌, ℕ, zero, suc, ◌<◌, ◌≤◌, ◌==◌, Bool, true, cond, Option, Some, None, List, [], ◌∷◌, length, map, refl, ap, ◌∙◌, arith}
use Rattle.std.specs.List.{list_all, slice_get}
use Rattle.std.proofs.lemmas.Bool.{and_parts, false≢true}
use Rattle.xsd_model.specs.declared.parts.Group.{Group}
use Rattle.xsd_model.specs.declared.parts.Particle.{Particle}
use Rattle.xsd_model.specs.declared.parts.Term.{Term}
use Rattle.xsd_model.specs.declared.parts.Term.TheVariants as term
use Rattle.xsd_model.specs.Parts.{IsSchemaParts, Parts, all_end, particle_in}
use Rattle.exi_counts.specs.Counts.{copied, copies, group_particles, group_states, in_sequence, particle_particles, particle_states, particles_of, particles_within, states_of, states_within, sum_of, term_particles, term_states}
use Rattle.exi_counts.specs.Inner.{inner_at, inner_in, inner_of}
use Rattle.exi_counts.proofs.InnerEnds.{inner_ends}

abbrev Agree : (ℕ → Bool) → (ℕ → ℕ) → (ℕ → ℕ) → Type 0
Agree test f g = (y : ℕ) → test y ≡ true → f y ≡ g y

map_agree : (test : ℕ → Bool) (f g : ℕ → ℕ) → Agree test f g → (xs : List ℕ) → list_all test xs ≡ true → map f xs ≡ map g xs
map_agree test f g h [] all = refl
map_agree test f g h (x ∷ xs) all =
    let both = and_parts (test x) (list_all test xs) all in
    ap (λ y. y ∷ map f xs) (h x both.0) ∙ ap (λ l. g x ∷ l) (map_agree test f g h xs both.1)

group_states_agree : (test : ℕ → Bool) (f g : ℕ → ℕ) → Agree test f g → (o : Option Group) → list_all test (particle_in o) ≡ true → group_states f o ≡ group_states g o
group_states_agree test f g h None all = refl
group_states_agree test f g h (Some x) all = by x.particle all
  where
    by : (o : Option ℕ) → list_all test (particle_in (Some (record { particle = o; event = x.event }))) ≡ true → group_states f (Some (record { particle = o; event = x.event })) ≡ group_states g (Some (record { particle = o; event = x.event }))
    by None all = refl
    by (Some y) all = h y (and_parts (test y) true all).0

group_particles_agree : (test : ℕ → Bool) (f g : ℕ → ℕ) → Agree test f g → (o : Option Group) → list_all test (particle_in o) ≡ true → group_particles f o ≡ group_particles g o
group_particles_agree test f g h None all = refl
group_particles_agree test f g h (Some x) all = by x.particle all
  where
    by : (o : Option ℕ) → list_all test (particle_in (Some (record { particle = o; event = x.event }))) ≡ true → group_particles f (Some (record { particle = o; event = x.event })) ≡ group_particles g (Some (record { particle = o; event = x.event }))
    by None all = refl
    by (Some y) all = h y (and_parts (test y) true all).0

term_states_agree : (p : Parts) (test : ℕ → Bool) (f g : ℕ → ℕ) → Agree test f g → (t : Term) → list_all test (inner_of p t) ≡ true → term_states p f t ≡ term_states p g t
term_states_agree p test f g h (term.Element element) all = refl
term_states_agree p test f g h (term.Group group) all = group_states_agree test f g h (slice_get p.groups group) all
term_states_agree p test f g h (term.Sequence places) all = ap in_sequence (map_agree test f g h places all)
term_states_agree p test f g h (term.Choice places) all = ap (λ l. suc (sum_of l)) (map_agree test f g h places all)
term_states_agree p test f g h (term.Wild wild) all = refl

term_particles_agree : (p : Parts) (test : ℕ → Bool) (f g : ℕ → ℕ) → Agree test f g → (t : Term) → list_all test (inner_of p t) ≡ true → term_particles p f t ≡ term_particles p g t
term_particles_agree p test f g h (term.Element element) all = refl
term_particles_agree p test f g h (term.Group group) all = group_particles_agree test f g h (slice_get p.groups group) all
term_particles_agree p test f g h (term.Sequence places) all = ap sum_of (map_agree test f g h places all)
term_particles_agree p test f g h (term.Choice places) all = ap sum_of (map_agree test f g h places all)
term_particles_agree p test f g h (term.Wild wild) all = refl

states_agree : (p : Parts) (test : ℕ → Bool) (f g : ℕ → ℕ) → Agree test f g → (o : Option Particle) → list_all test (inner_in p o) ≡ true → particle_states p f o ≡ particle_states p g o
states_agree p test f g h None all = refl
states_agree p test f g h (Some x) all = ap (copied (copies x.least x.most)) (term_states_agree p test f g h x.term all)

particles_agree : (p : Parts) (test : ℕ → Bool) (f g : ℕ → ℕ) → Agree test f g → (o : Option Particle) → list_all test (inner_in p o) ≡ true → particle_particles p f o ≡ particle_particles p g o
particles_agree p test f g h None all = refl
particles_agree p test f g h (Some x) all = ap (λ n. cond (copies x.least x.most == 0) 0 n) (term_particles_agree p test f g h x.term all)

-- more levels than a path has make no difference
states_alike : (p : Parts) (n m k place : ℕ) → n ≤ m → n ≤ k → all_end (inner_at p) n place ≡ true → states_within m p place ≡ states_within k p place
states_alike p zero m k place le also e = absurd (false≢true e)
states_alike p (suc n) zero k place le also e = absurd (omega (arith, le))
states_alike p (suc n) (suc m) zero place le also e = absurd (omega (arith, also))
states_alike p (suc n) (suc m) (suc k) place le also e =
    states_agree p (all_end (inner_at p) n) (states_within m p) (states_within k p) (λ y f. states_alike p n m k y (omega (arith, le)) (omega (arith, also)) f) (slice_get p.particles place) e

particles_alike : (p : Parts) (n m k place : ℕ) → n ≤ m → n ≤ k → all_end (inner_at p) n place ≡ true → particles_within m p place ≡ particles_within k p place
particles_alike p zero m k place le also e = absurd (false≢true e)
particles_alike p (suc n) zero k place le also e = absurd (omega (arith, le))
particles_alike p (suc n) (suc m) zero place le also e = absurd (omega (arith, also))
particles_alike p (suc n) (suc m) (suc k) place le also e =
    particles_agree p (all_end (inner_at p) n) (particles_within m p) (particles_within k p) (λ y f. particles_alike p n m k y (omega (arith, le)) (omega (arith, also)) f) (slice_get p.particles place) e

pub states_of-step : (p : Parts) → IsSchemaParts p → (place : ℕ) → place < length p.particles → states_of p place ≡ particle_states p (states_of p) (slice_get p.particles place)
states_of-step p is place less =
    states_alike p (suc (length p.particles)) (suc (length p.particles)) (suc (suc (length p.particles))) place (omega arith) (omega arith) (inner_ends p is place less)

pub particles_of-step : (p : Parts) → IsSchemaParts p → (place : ℕ) → place < length p.particles → particles_of p place ≡ particle_particles p (particles_of p) (slice_get p.particles place)
particles_of-step p is place less =
    particles_alike p (suc (length p.particles)) (suc (length p.particles)) (suc (suc (length p.particles))) place (omega arith) (omega arith) (inner_ends p is place less)
