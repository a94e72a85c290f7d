-- The particles of a content are there, and what a type counts.
use Rattle.std.proofs.Common.{◌≡◌, ℕ, zero, suc, ◌+◌, ◌*◌, ◌<◌, Bool, cond, Option, Some, None, List, [], ◌∷◌, ◌++◌, All, get_or, length, map, take, refl, ap, ◌∙◌, subst, arith}
use Rattle.std.specs.List.{slice_get}
use Rattle.std.specs.Option.{is_some, option_to_list}
use Rattle.std.proofs.lemmas.List.{take_more}
use Rattle.std.proofs.lemmas.List.Elements.{All-append, All-cons, All-nil}
use Rattle.xsd_model.specs.declared.parts.Complex.{Complex}
use Rattle.xsd_model.specs.declared.parts.Content.{Content}
use Rattle.xsd_model.specs.declared.parts.Content.TheVariants as content
use Rattle.xsd_model.specs.declared.parts.Derivation.{Derivation}
use Rattle.xsd_model.specs.declared.parts.Derivation.TheVariants as derivation
use Rattle.xsd_model.specs.declared.parts.TypeBody.{TypeBody}
use Rattle.xsd_model.specs.declared.parts.TypeBody.TheVariants as body
use Rattle.xsd_model.specs.declared.parts.TypeDef.{TypeDef}
use Rattle.xsd_model.specs.declared.parts.Wild.{Wild}
use Rattle.xsd_model.specs.Parts.{IsBelow, IsBody, IsContent, IsSchemaParts, IsType, Parts}
use Rattle.exi_inherited.specs.Bases.{complex_base}
use Rattle.exi_inherited.specs.Contents.{Whole, based_on, content_of, content_within, derived_content, elements, extended, no_content, own_content, value}
use Rattle.exi_inherited.specs.Uses.{uses_of}
use Rattle.exi_counts.specs.Counts.{content_states, in_sequence, sum_of, type_states, wild_states}
use Rattle.exi_counts.specs.Kinds.{AreParticlesOf}
use Rattle.exi_counts.specs.Sizes.{few}
use Rattle.exi_counts.proofs.InnerEnds.{slot_there}
use Rattle.exi_counts.proofs.Sized.{few_add}

-- ---- the particles of a content
one_below : (most : ℕ) (o : Option ℕ) → IsBelow most o → All (λ place. place < most) (option_to_list o)
one_below most None below = All-nil (λ place. place < most)
one_below most (Some x) below = All-cons (λ place. place < most) x [] below (All-nil (λ place. place < most))

none_there : (p : Parts) → AreParticlesOf p no_content
none_there p = All-nil (λ place. place < length p.particles)

extended_there : (p : Parts) (base : Whole) (particle : Option ℕ) (mixed : Bool) → AreParticlesOf p base → IsBelow (length p.particles) particle → AreParticlesOf p (extended base particle mixed)
extended_there p (value place) particle mixed base below = one_below (length p.particles) particle below
extended_there p (elements any particles was) particle mixed base below = All-append (λ place. place < length p.particles) particles (option_to_list particle) base (one_below (length p.particles) particle below)

derived_there : (p : Parts) (d : Derivation) (c : Content) (base : Whole) → IsContent p c → AreParticlesOf p base → AreParticlesOf p (derived_content d c base)
derived_there p derivation.Extension content.Empty base is there = there
derived_there p derivation.Extension (content.Simple place) base is there = tt
derived_there p derivation.Extension (content.Parts particle mixed) base is there = extended_there p base particle mixed there is
derived_there p derivation.Restriction content.Empty base is there = none_there p
derived_there p derivation.Restriction (content.Simple place) base is there = tt
derived_there p derivation.Restriction (content.Parts particle mixed) base is there = one_below (length p.particles) particle is

body_there : (p : Parts) (place : ℕ) (base : Whole) (t : TypeDef) (b : TypeBody) → slice_get p.types place ≡ Some t → t.body ≡ b → IsBody p b → AreParticlesOf p base → AreParticlesOf p (own_content p place base)
body_there p place base t (body.Simple form union) at e it there = rw (at, e) tt
body_there p place base t body.Ur at e it there = rw (at, e) (All-nil (λ place. place < length p.particles))
body_there p place base t (body.Complex complex) at e it there = rw (at, e) (derived_there p complex.derivation complex.content base it.1 there)

own_there : (p : Parts) → IsSchemaParts p → (place : ℕ) (base : Whole) → AreParticlesOf p base → AreParticlesOf p (own_content p place base)
own_there p is place base there = by (slice_get p.types place) refl
  where
    by : (o : Option TypeDef) → slice_get p.types place ≡ o → AreParticlesOf p (own_content p place base)
    by None at = rw at (none_there p)
    by (Some t) at =
        let slot = slot_there p.types place t at in
        let it : IsType p t = subst (IsType p) slot.1 (is.types place t slot.0) in
        body_there p place base t t.body at refl it.body_is there

based_there : (p : Parts) (within : ℕ → Whole) (o : Option ℕ) → ((x : ℕ) → AreParticlesOf p (within x)) → AreParticlesOf p (based_on within o)
based_there p within None h = none_there p
based_there p within (Some x) h = h x

within_there : (p : Parts) → IsSchemaParts p → (n place : ℕ) → AreParticlesOf p (content_within n p place)
within_there p is zero place = none_there p
within_there p is (suc n) place = own_there p is place (based_on (content_within n p) (complex_base p place)) (based_there p (content_within n p) (complex_base p place) (λ x. within_there p is n x))

pub content_there : (p : Parts) → IsSchemaParts p → (place : ℕ) → AreParticlesOf p (content_of p place)
content_there p is place = within_there p is (suc (length p.types)) place

-- ---- what a type counts
pub states_simple : (p : Parts) (place : ℕ) (empty : Bool) (t : TypeDef) (form : ℕ) (union : Bool) → slice_get p.types place ≡ Some t → t.body ≡ body.Simple form union → type_states p place empty ≡ cond empty 1 2
states_simple p place empty t form union at e = rw (at, e) refl

pub states_ur : (p : Parts) (place : ℕ) (empty : Bool) (t : TypeDef) → slice_get p.types place ≡ Some t → t.body ≡ body.Ur → type_states p place empty ≡ 2
states_ur p place empty t at e = rw (at, e) refl

states_complex_is : (p : Parts) (place : ℕ) (empty : Bool) (t : TypeDef) (complex : Complex) (n : ℕ) → slice_get p.types place ≡ Some t → t.body ≡ body.Complex complex → 2 * length (uses_of p place) + (wild_states complex.wild + cond empty 1 (content_states p (content_of p place))) ≡ n → type_states p place empty ≡ n
states_complex_is p place empty t complex n at e h = rw (at, e) h

pub states_complex : (p : Parts) (place : ℕ) (empty : Bool) (t : TypeDef) (complex : Complex) → slice_get p.types place ≡ Some t → t.body ≡ body.Complex complex → type_states p place empty ≡ 2 * length (uses_of p place) + (wild_states complex.wild + cond empty 1 (content_states p (content_of p place)))
states_complex p place empty t complex at e = states_complex_is p place empty t complex (2 * length (uses_of p place) + (wild_states complex.wild + cond empty 1 (content_states p (content_of p place)))) at e refl

pub kind_capped : (uses wild content u c : ℕ) → u ≡ few uses → c ≡ few content → few (2 * u + wild + c) ≡ few (2 * uses + (wild + content))
kind_capped uses wild content u c u_is c_is = omega (arith, u_is, c_is)

-- ---- one after another
sum_push : (f : ℕ → ℕ) (xs : List ℕ) (x : ℕ) → sum_of (map f (xs ++ x ∷ [])) ≡ sum_of (map f xs) + f x
sum_push f [] x = omega arith
sum_push f (y ∷ ys) x = let h = sum_push f ys x in omega (arith, h)

pub behind_more : (f : ℕ → ℕ) (start : ℕ) (xs : List ℕ) (i total s : ℕ) → i < length xs → total ≡ few (start + sum_of (map f (take i xs))) → s ≡ few (f (get_or xs i 0)) → few (total + s) ≡ few (start + sum_of (map f (take (i + 1) xs)))
behind_more f start xs i total s less so_far one =
    let more : sum_of (map f (take (i + 1) xs)) ≡ sum_of (map f (take i xs)) + f (get_or xs i 0) = ap (λ l. sum_of (map f l)) (take_more xs i 0 less) ∙ sum_push f (take i xs) (get_or xs i 0) in
    let sum : few (total + s) ≡ few (few (start + sum_of (map f (take i xs))) + few (f (get_or xs i 0))) = ap (λ n. few (n + s)) so_far ∙ ap (λ n. few (few (start + sum_of (map f (take i xs))) + n)) one in
    let regroup : start + sum_of (map f (take i xs)) + f (get_or xs i 0) ≡ start + sum_of (map f (take (i + 1) xs)) = omega (arith, more) in
    sum ∙ few_add (start + sum_of (map f (take i xs))) (f (get_or xs i 0)) ∙ ap few regroup

pub in_sequence_some : (f : ℕ → ℕ) (xs : List ℕ) → 0 < length xs → few (0 + sum_of (map f xs)) ≡ few (in_sequence (map f xs))
in_sequence_some f [] some = absurd (omega (arith, some))
in_sequence_some f (x ∷ xs) some = let e : 0 + (f x + sum_of (map f xs)) ≡ f x + sum_of (map f xs) = omega arith in ap few e

-- ---- a wildcard
pub wild_one : (o : Option Wild) → cond (is_some o) 1 0 ≡ wild_states o
wild_one None = refl
wild_one (Some w) = refl
