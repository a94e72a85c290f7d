-- A path that ends has no more steps than there are places.
use Rattle.std.proofs.Common.{◌≡◌, ℕ, zero, suc, ◌<◌, ◌≤◌, ◌⊎◌, Bool, true, Option, Some, None, option_to_list, unwrap_or, inl, inr, List, [], ◌∷◌, All, length, refl, sym, ap, ◌∙◌, arith, lt-ltb, ltb-true}
use Rattle.std.specs.Prelude.{nat_lt}
use Rattle.std.specs.List.{flat_map, list_all, slice_get}
use Rattle.std.proofs.lemmas.Bool.{and_from, and_parts, cases_Bool, cases_eq, cases_lt, false≢true, true≢false}
use Rattle.std.proofs.lemmas.List.Elements.{All-head, All-tail}
use Rattle.std.proofs.lemmas.Option.{none-some}
use Rattle.xsd_model.specs.Parts.{AreParticles, IsBelow, IsElement, IsParticle, IsTerm, IsType, IsUse, Parts, all_end, attribute_groups_at, base_in, bases_at, group_in, groups_at, groups_in, head_in, heads_at, named_by, named_within, particle_in}
use Rattle.xsd_model.specs.declared.parts.AttributeGroup.{AttributeGroup}
use Rattle.xsd_model.specs.declared.parts.AttributeUse.{AttributeUse}
use Rattle.xsd_model.specs.declared.parts.AttributeUse.TheVariants as usage
use Rattle.xsd_model.specs.declared.parts.Particle.{Particle}
use Rattle.xsd_model.specs.declared.parts.Term.{Term}
use Rattle.xsd_model.specs.declared.parts.Term.TheVariants as term
use Rattle.xsd_places.specs.Kinds.{count_before}
use Rattle.xsd_schema.proofs.Counted.{count_grows, count_here, count_passes}
use Rattle.xsd_schema.proofs.Ends.{all_flat, end_more}

-- ---- counts
-- a weaker test passes no fewer
pub count_weaker : (p q : ℕ → Bool) (n : ℕ) → ((i : ℕ) → p i ≡ true → q i ≡ true) → count_before p n ≤ count_before q n
count_weaker p q zero h = omega arith
count_weaker p q (suc n) h =
    let before : count_before p n ≤ count_before q n = count_weaker p q n h in elim (cases_Bool (p n)) [
      | inl e ↦
          let one : count_before p (suc n) ≡ suc (count_before p n) = count_here p n e in
          let more : count_before q (suc n) ≡ suc (count_before q n) = count_here q n (h n e) in
          omega (arith, before, one, more)
      | inr e ↦
          let none : count_before p (suc n) ≡ count_before p n = count_passes p n e in
          let grows : count_before q n ≤ count_before q (suc n) = count_grows q n in
          omega (arith, before, none, grows)
    ]

-- where as many pass, the same pass
same_passes : (p q : ℕ → Bool) (n : ℕ) → ((i : ℕ) → p i ≡ true → q i ≡ true) → count_before q n ≤ count_before p n → (i : ℕ) → i < n → q i ≡ true → p i ≡ true
same_passes p q zero h few i less e = absurd (omega (arith, less))
same_passes p q (suc n) h few i less e =
    let before : count_before p n ≤ count_before q n = count_weaker p q n h in elim (cases_Bool (p n)) [
      | inl passes ↦
          let one : count_before p (suc n) ≡ suc (count_before p n) = count_here p n passes in
          let more : count_before q (suc n) ≡ suc (count_before q n) = count_here q n (h n passes) in
          elim (cases_eq i n) [
            | inl same ↦ ap p same ∙ passes
            | inr differs ↦ same_passes p q n h (omega (arith, few, one, more)) i (omega (arith, less, differs)) e
          ]
      | inr fails ↦
          let none : count_before p (suc n) ≡ count_before p n = count_passes p n fails in elim (cases_Bool (q n)) [
            | inl passes ↦
                let more : count_before q (suc n) ≡ suc (count_before q n) = count_here q n passes in
                absurd (omega (arith, few, none, more, before))
            | inr fails_too ↦
                let same_count : count_before q (suc n) ≡ count_before q n = count_passes q n fails_too in
                elim (cases_eq i n) [
                  | inl same ↦ absurd (true≢false (sym e ∙ ap q same ∙ fails_too))
                  | inr differs ↦ same_passes p q n h (omega (arith, few, none, same_count)) i (omega (arith, less, differs)) e
                ]
          ]
    ]

-- no more pass than there are
count_most : (p : ℕ → Bool) (n : ℕ) → count_before p n ≤ n
count_most p zero = omega arith
count_most p (suc n) =
    let before : count_before p n ≤ n = count_most p n in elim (cases_Bool (p n)) [
      | inl e ↦ let one : count_before p (suc n) ≡ suc (count_before p n) = count_here p n e in omega (arith, before, one)
      | inr e ↦ let none : count_before p (suc n) ≡ count_before p n = count_passes p n e in omega (arith, before, none)
    ]

-- and where so many pass, all do
all_pass : (p : ℕ → Bool) (n : ℕ) → n ≤ count_before p n → (i : ℕ) → i < n → p i ≡ true
all_pass p zero many i less = absurd (omega (arith, less))
all_pass p (suc n) many i less =
    let most : count_before p n ≤ n = count_most p n in elim (cases_Bool (p n)) [
      | inl e ↦
          let one : count_before p (suc n) ≡ suc (count_before p n) = count_here p n e in elim (cases_eq i n) [
            | inl same ↦ ap p same ∙ e
            | inr differs ↦ all_pass p n (omega (arith, many, one)) i (omega (arith, less, differs))
          ]
      | inr e ↦
          let none : count_before p (suc n) ≡ count_before p n = count_passes p n e in
          absurd (omega (arith, many, none, most))
    ]

-- ---- with each step more some paths more end, or none
one_step_more : (next : ℕ → List ℕ) (k i : ℕ) → all_end next k i ≡ true → all_end next (suc k) i ≡ true
one_step_more next k i e = end_more next k (suc k) i (omega arith) e

-- after so many steps no other ends
record IsSettled (next : ℕ → List ℕ) (most k : ℕ) : Type 0 where
  steps : ℕ
  few : steps ≤ k
  none_more : (i : ℕ) → i < most → all_end next (suc steps) i ≡ true → all_end next steps i ≡ true

settled_or : (next : ℕ → List ℕ) (most k : ℕ) → (k ≤ count_before (all_end next k) most) ⊎ IsSettled next most k
settled_or next most zero = inl (omega arith)
settled_or next most (suc k) = elim (settled_or next most k) [
  | inl many ↦ elim (cases_lt (count_before (all_end next (suc k)) most) (suc k)) [
    | inl less ↦ inr (record {
      steps = k;
      few = omega arith;
      none_more = same_passes (all_end next k) (all_end next (suc k)) most (one_step_more next k) (omega (arith, many, less));
    })
    | inr le ↦ inl le
  ]
  | inr settled ↦ inr (record { steps = settled.steps; few = (let few : settled.steps ≤ k = settled.few in omega (arith, few)); none_more = settled.none_more })
]

-- paths stay among so many places
abbrev pub StaysBelow : (ℕ → List ℕ) → ℕ → Type 0
StaysBelow next most = (i : ℕ) → i < most → list_all (λ q. nat_lt q most) (next i) ≡ true

all_also : (p q r : ℕ → Bool) (xs : List ℕ) → ((x : ℕ) → p x ≡ true → q x ≡ true → r x ≡ true) → list_all p xs ≡ true → list_all q xs ≡ true → list_all r xs ≡ true
all_also p q r [] h e f = refl
all_also p q r (x ∷ xs) h e f =
    let first = and_parts (p x) (list_all p xs) e in
    let second = and_parts (q x) (list_all q xs) f in
    and_from (r x) (list_all r xs) (h x first.0 second.0) (all_also p q r xs h first.1 second.1)

stays_settled : (next : ℕ → List ℕ) (most k : ℕ) (settled : IsSettled next most k) → StaysBelow next most → (n i : ℕ) → i < most → all_end next n i ≡ true → all_end next settled.steps i ≡ true
stays_settled next most k settled below zero i less e = absurd (false≢true e)
stays_settled next most k settled below (suc n) i less e =
    settled.none_more i less
    (all_also (all_end next n) (λ q. nat_lt q most) (all_end next settled.steps) (next i) (λ q ends inside. stays_settled next most k settled below n q (ltb-true q most inside) ends) e (below i less))

pub few_steps : (next : ℕ → List ℕ) (most : ℕ) → StaysBelow next most → ((i : ℕ) → i < most → (n : ℕ) × (all_end next n i ≡ true)) → (i : ℕ) → i < most → all_end next most i ≡ true
few_steps next most below ends i less = elim (settled_or next most most) [
  | inl many ↦ all_pass (all_end next most) most many i less
  | inr settled ↦
      let found = ends i less in
      end_more next settled.steps most i settled.few (stays_settled next most most settled below found.0 i less found.1)
]

-- ---- the paths of a schema's parts stay among them
told : {X : Type 0} (P : X → Type 0) (xs : List X) (i : ℕ) → i < length xs → All P xs → (x : X) × (slice_get xs i ≡ Some x) × P x
told P [] i less h = absurd (omega (arith, less))
told P (x ∷ xs) zero less h = (x, refl, All-head P x xs h)
told P (x ∷ xs) (suc i) less h = told P xs i (omega (arith, less)) (All-tail P x xs h)

option_below : (most : ℕ) (o : Option ℕ) → IsBelow most o → list_all (λ q. nat_lt q most) (option_to_list o) ≡ true
option_below most None h = refl
option_below most (Some q) h = and_from (nat_lt q most) true (lt-ltb q most h) refl

pub bases_below : (p : Parts) → All (IsType p) p.types → StaysBelow (bases_at p) (length p.types)
bases_below p h i less =
    let here = told (IsType p) p.types i less h in
    ap (λ o. list_all (λ q. nat_lt q (length p.types)) (base_in o)) here.1 ∙ option_below (length p.types) here.0.base here.2.base_is

pub heads_below : (p : Parts) → All (IsElement p) p.elements → StaysBelow (heads_at p) (length p.elements)
heads_below p h i less =
    let here = told (IsElement p) p.elements i less h in
    ap (λ o. list_all (λ q. nat_lt q (length p.elements)) (head_in o)) here.1 ∙ option_below (length p.elements) here.0.head here.2.head_is

use_below : (p : Parts) (u : AttributeUse) → IsUse p u → list_all (λ q. nat_lt q (length p.attribute_groups)) (group_in u) ≡ true
use_below p (usage.Use attribute required) h = refl
use_below p (usage.Prohibited name) h = refl
use_below p (usage.Group group) h = and_from (nat_lt group (length p.attribute_groups)) true (lt-ltb group (length p.attribute_groups) h) refl

each_below : (p : Parts) (us : List AttributeUse) → All (IsUse p) us → list_all (λ u. list_all (λ q. nat_lt q (length p.attribute_groups)) (group_in u)) us ≡ true
each_below p [] h = refl
each_below p (u ∷ us) h =
    and_from (list_all (λ q. nat_lt q (length p.attribute_groups)) (group_in u)) (list_all (λ u. list_all (λ q. nat_lt q (length p.attribute_groups)) (group_in u)) us)
    (use_below p u (All-head (IsUse p) u us h)) (each_below p us (All-tail (IsUse p) u us h))

pub attribute_groups_below : (p : Parts) → All (λ g. All (IsUse p) g.uses) p.attribute_groups → StaysBelow (attribute_groups_at p) (length p.attribute_groups)
attribute_groups_below p h i less =
    let here = told (λ (g : AttributeGroup). All (IsUse p) g.uses) p.attribute_groups i less h in
    ap (λ o. list_all (λ q. nat_lt q (length p.attribute_groups)) (groups_in o)) here.1
    ∙ all_flat (λ q. nat_lt q (length p.attribute_groups)) group_in here.0.uses (each_below p here.0.uses here.2)

-- the groups that particles name
each_particle : (p : Parts) (place : ℕ) (ps : List Particle) (i : ℕ) (x : Particle) → AreParticles p place ps → slice_get ps i ≡ Some x → (here : ℕ) × IsTerm p here x.term
each_particle p place [] i x h e = absurd (none-some x e)
each_particle p place (y ∷ ps) zero x h e = (place, term_of y x (same_particle y x e) h.0)
  where
    same_particle : (y x : Particle) → Some y ≡ Some x → y ≡ x
    same_particle y x e = ap (λ o. unwrap_or o y) e

    term_of : (y x : Particle) → y ≡ x → IsParticle p place y → IsTerm p place x.term
    term_of y x e h = rw (sym e) h.term_is
each_particle p place (y ∷ ps) (suc i) x h e = each_particle p (suc place) ps i x h.1 e

all_always : (test : ℕ → Bool) (xs : List ℕ) → ((x : ℕ) → test x ≡ true) → list_all test xs ≡ true
all_always test [] h = refl
all_always test (x ∷ xs) h = and_from (test x) (list_all test xs) (h x) (all_always test xs h)

flat_always : (test : ℕ → Bool) (w : ℕ → List ℕ) (xs : List ℕ) → ((x : ℕ) → list_all test (w x) ≡ true) → list_all test (flat_map w xs) ≡ true
flat_always test w xs h = all_flat test w xs (all_always (λ x. list_all test (w x)) xs h)

term_below : (p : Parts) (w : ℕ → List ℕ) (here least : ℕ) (most : Option ℕ) (t : Term) → ((x : ℕ) → list_all (λ q. nat_lt q (length p.groups)) (w x) ≡ true) → IsTerm p here t → list_all (λ q. nat_lt q (length p.groups)) (named_by w (Some (record { least = least; most = most; term = t }))) ≡ true
term_below p w here least most (term.Element element) each h = refl
term_below p w here least most (term.Group group) each h = and_from (nat_lt group (length p.groups)) true (lt-ltb group (length p.groups) h) refl
term_below p w here least most (term.Sequence places) each h = flat_always (λ q. nat_lt q (length p.groups)) w places each
term_below p w here least most (term.Choice places) each h = flat_always (λ q. nat_lt q (length p.groups)) w places each
term_below p w here least most (term.Wild wild) each h = refl

particle_below : (p : Parts) (w : ℕ → List ℕ) (i : ℕ) (o : Option Particle) → AreParticles p 0 p.particles → ((x : ℕ) → list_all (λ q. nat_lt q (length p.groups)) (w x) ≡ true) → slice_get p.particles i ≡ o → list_all (λ q. nat_lt q (length p.groups)) (named_by w o) ≡ true
particle_below p w i None h each e = refl
particle_below p w i (Some x) h each e =
    let found = each_particle p 0 p.particles i x h e in
    term_below p w found.0 x.least x.most x.term each found.1

named_below : (n : ℕ) (p : Parts) (i : ℕ) → AreParticles p 0 p.particles → list_all (λ q. nat_lt q (length p.groups)) (named_within n p.particles i) ≡ true
named_below zero p i h = refl
named_below (suc n) p i h = particle_below p (named_within n p.particles) i (slice_get p.particles i) h (λ x. named_below n p x h) refl

pub groups_below : (p : Parts) → AreParticles p 0 p.particles → StaysBelow (groups_at p) (length p.groups)
groups_below p h i less =
    flat_always (λ q. nat_lt q (length p.groups)) (named_within (length p.particles) p.particles) (particle_in (slice_get p.groups i)) (λ x. named_below (length p.particles) p x h)
