-- How many states a grammar has does not hang on where it lies how values are represented.
use Rattle.std.proofs.Common.{◌≡◌, ◌+◌, ◌*◌, ℕ, zero, suc, Bool, ◌++◌, length, map, slice_get, if◌then◌else◌, Option, Some, None, refl, ◌∙◌}
use Rattle.xsd_model.specs.declared.parts.Particle.{Particle}
use Rattle.xsd_model.specs.declared.parts.Term.{Term}
use Rattle.xsd_model.specs.declared.parts.Term.TheVariants as term
use Rattle.xsd_model.specs.declared.parts.TypeBody.{TypeBody}
use Rattle.xsd_model.specs.declared.parts.TypeBody.TheVariants as body
use Rattle.xsd_model.specs.declared.parts.TypeDef.{TypeDef}
use Rattle.xsd_model.specs.Parts.{Parts}
use Rattle.exi_inherited.specs.Contents.{Whole, content_of, elements, value}
use Rattle.exi_inherited.specs.Uses.{uses_of}
use Rattle.exi_counts.specs.Counts.{any_states, content_states, copied, copies, group_states, in_sequence, of_stand_ins, particle_states, states_of, states_within, sum_of, term_states, type_states, wild_states}
use Rattle.xsd_known.proofs.Told.{same_content, same_in_type, same_stand_ins, same_uses, told}

-- of a type with so many attributes, and so many states for its content
abbrev pub states_seen : ℕ → ℕ → Bool → Option TypeDef → ℕ
states_seen uses content empty None = 1
states_seen uses content empty (Some t) = by_body t.body
  where
    by_body : TypeBody → ℕ
    by_body (body.Simple form union) = if empty then 1 else 2
    by_body (body.Complex complex) = 2 * uses + (wild_states complex.wild + (if empty then 1 else content))
    by_body body.Ur = 2

module _ (p : Parts) where
  pub same_term_states : {f g : ℕ → ℕ} → f ≡ g → (t : Term) → term_states (told p) f t ≡ term_states p g t
  same_term_states e (term.Element element) = λ i. of_stand_ins (length (same_stand_ins p i element))
  same_term_states e (term.Group group) = λ i. group_states (e i) (slice_get p.groups group)
  same_term_states e (term.Sequence places) = λ i. in_sequence (map (e i) places)
  same_term_states e (term.Choice places) = λ i. suc (sum_of (map (e i) places))
  same_term_states e (term.Wild wild) = refl

  pub same_particle_states : {f g : ℕ → ℕ} → f ≡ g → (o : Option Particle) → particle_states (told p) f o ≡ particle_states p g o
  same_particle_states e None = refl
  same_particle_states e (Some x) = λ i. copied (copies x.least x.most) (same_term_states e x.term i)

  pub same_states_within : (n : ℕ) → states_within n (told p) ≡ states_within n p
  same_states_within zero = refl
  same_states_within (suc n) = λ i place. same_particle_states (same_states_within n) (slice_get p.particles place) i

  pub same_states : states_of (told p) ≡ states_of p
  same_states = same_states_within (suc (length p.particles))

  pub same_content_states : (w : Whole) → content_states (told p) w ≡ content_states p w
  same_content_states (value place) = refl
  same_content_states (elements any particles mixed) = λ i. in_sequence (any_states any ++ map (same_states i) particles)

  pub same_type_states : (place : ℕ) (empty : Bool) → type_states (told p) place empty ≡ type_states p place empty
  same_type_states place empty =
      same_in_type p (states_seen (length (uses_of (told p) place)) (content_states (told p) (content_of (told p) place)) empty) (λ n m union t. refl) place
      ∙ (λ i. states_seen (length (same_uses p i place)) (same_content_states (same_content p i place) i) empty (slice_get p.types place))
