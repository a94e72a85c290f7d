-- The piece of a particle by those of the particles within it.
use Rattle.std.proofs.Common.{◌≡◌, ℕ, zero, suc, ◌+◌, ◌<◌, Bool, true, Option, Some, None, option_to_list, List, [], ◌∷◌, length, map, slice_get, refl, subst, ap, ◌∙◌, arith}
use Rattle.std.specs.List.{list_all}
use Rattle.std.proofs.lemmas.Bool.{and_parts, false≢true}
use Rattle.xsd_model.specs.declared.parts.Group.{Group}
use Rattle.xsd_model.specs.declared.parts.Particle.{Particle}
use Rattle.xsd_model.specs.declared.parts.Term.{Term}
use Rattle.xsd_model.specs.declared.parts.Term.TheVariants as term
use Rattle.xsd_model.specs.Parts.{IsParticle, IsSchemaParts, Parts, all_end, particle_in}
use Rattle.exi_proto.specs.Pieces.{Piece, choice, copied, sequence}
use Rattle.exi_proto.specs.Protos.{group_piece, particle_piece, piece_of, piece_within, term_piece}
use Rattle.exi_counts.specs.Inner.{inner_at, inner_in, inner_of}
use Rattle.exi_counts.proofs.InnerEnds.{a_particle, inner_ends}

same_each : (f g : ℕ → Piece) (test : ℕ → Bool) → ((x : ℕ) → test x ≡ true → f x ≡ g x) → (xs : List ℕ) → list_all test xs ≡ true → map f xs ≡ map g xs
same_each f g test h [] e = refl
same_each f g test h (x ∷ xs) e =
    let both = and_parts (test x) (list_all test xs) e in
    ap (λ (y : Piece). y ∷ map f xs) (h x both.0) ∙ ap (λ (ys : List Piece). g x ∷ ys) (same_each f g test h xs both.1)

same_group : (f g : ℕ → Piece) (test : ℕ → Bool) → ((x : ℕ) → test x ≡ true → f x ≡ g x) → (o : Option Group) → list_all test (particle_in o) ≡ true → group_piece f o ≡ group_piece g o
same_group f g test h None e = refl
same_group f g test h (Some x) e = of_option x.particle e
  where
    of_option : (o : Option ℕ) → list_all test (option_to_list o) ≡ true → group_piece f (Some (record { particle = o; event = 0 })) ≡ group_piece g (Some (record { particle = o; event = 0 }))
    of_option None e = refl
    of_option (Some q) e = h q (and_parts (test q) true e).0

same_term : (p : Parts) (f g : ℕ → Piece) (test : ℕ → Bool) → ((x : ℕ) → test x ≡ true → f x ≡ g x) → (t : Term) → list_all test (inner_of p t) ≡ true → term_piece p f t ≡ term_piece p g t
same_term p f g test h (term.Element element) e = refl
same_term p f g test h (term.Group group) e = same_group f g test h (slice_get p.groups group) e
same_term p f g test h (term.Sequence places) e = ap sequence (same_each f g test h places e)
same_term p f g test h (term.Choice places) e = ap choice (same_each f g test h places e)
same_term p f g test h (term.Wild wild) e = refl

same_particle : (p : Parts) (f g : ℕ → Piece) (test : ℕ → Bool) → ((x : ℕ) → test x ≡ true → f x ≡ g x) → (o : Option Particle) → list_all test (inner_in p o) ≡ true → particle_piece p f o ≡ particle_piece p g o
same_particle p f g test h None e = refl
same_particle p f g test h (Some x) e = ap (copied x.least x.most) (same_term p f g test h x.term e)

-- where all paths end within so many steps, more make no difference
steady : (n : ℕ) (p : Parts) (place : ℕ) → all_end (inner_at p) n place ≡ true → piece_within n p place ≡ piece_within (suc n) p place
steady zero p place e = absurd (false≢true e)
steady (suc n) p place e = same_particle p (piece_within n p) (piece_within (suc n) p) (all_end (inner_at p) n) (λ x f. steady n p x f) (slice_get p.particles place) e

pub piece_is : (p : Parts) (place : ℕ) → IsSchemaParts p → place < length p.particles → piece_of p place ≡ particle_piece p (piece_of p) (slice_get p.particles place)
piece_is p place h less =
    same_particle p (piece_within (length p.particles) p) (piece_within (suc (length p.particles)) p) (all_end (inner_at p) (length p.particles))
    (λ x f. steady (length p.particles) p x f) (slice_get p.particles place)
    (inner_ends p h place less)

-- what holds of the particle at a place
pub particle_is : (p : Parts) (place : ℕ) (x : Particle) → IsSchemaParts p → slice_get p.particles place ≡ Some x → IsParticle p place x
particle_is p place x h e =
    let at : 0 + place ≡ place = omega arith in
    subst (λ (k : ℕ). IsParticle p k x) at (a_particle p 0 p.particles place x h.particles e)
