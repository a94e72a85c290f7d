-- The grammars of types do not hang on where it lies how values are represented.
use Rattle.std.proofs.Common.{◌≡◌, ◌+◌, ℕ, zero, suc, Bool, List, [], ◌∷◌, ◌++◌, length, map, slice_get, get_or, if◌then◌else◌, Option, Some, None, refl, ap, subst, ◌∙◌, arith}
use Rattle.exi_names.specs.Datatypes.{Representation, text}
use Rattle.exi_gram.specs.Terminals.{StepRule, at, ch}
use Rattle.xsd_model.specs.declared.parts.AttributeDecl.{AttributeDecl}
use Rattle.xsd_model.specs.declared.parts.Particle.{Particle}
use Rattle.xsd_model.specs.declared.parts.Term.{Term}
use Rattle.xsd_model.specs.declared.parts.Term.TheVariants as term
use Rattle.xsd_model.specs.declared.parts.TypeBody.{TypeBody}
use Rattle.xsd_model.specs.declared.parts.TypeBody.TheVariants as body
use Rattle.xsd_model.specs.declared.parts.TypeDef.{TypeDef}
use Rattle.xsd_model.specs.declared.parts.Wild.{Wild}
use Rattle.xsd_model.specs.Parts.{Parts}
use Rattle.xsd_schema.specs.Words.{body_seen, type_seen}
use Rattle.exi_draft.specs.Drafts.{Draft, States}
use Rattle.exi_inherited.specs.Contents.{Whole, content_of, elements, value}
use Rattle.exi_proto.specs.Pieces.{Piece, choice, copied, empty_states, reading, reading_one, sequence, with_text}
use Rattle.exi_proto.specs.Protos.{any_draft, any_empty_draft, any_pieces, attribute_states, attribute_steps, complex_draft, content_states, draft_of_type, element_piece, end_unless, group_piece, last_wild, one_of_them, opening_piece, particle_piece, piece_of, piece_within, representation_of, term_piece, use_states, value_states, wild_steps}
use Rattle.xsd_known.specs.Knowing.{body_told, form_told}
use Rattle.xsd_known.proofs.Told.{same_content, same_in_type, same_stand_ins, same_uses, told, told_types, with_body}

-- ---- how values are represented
abbrev pub forms_told : List Representation → List TypeDef → List Representation
forms_told fs ts = map form_told (map (type_seen fs) ts)

abbrev pub representation_in : List Representation → TypeBody → Representation
representation_in fs (body.Simple form union) = get_or fs form text
representation_in fs (body.Complex complex) = text
representation_in fs body.Ur = text

abbrev pub representation_seen : List Representation → Option TypeDef → Representation
representation_seen fs None = text
representation_seen fs (Some t) = representation_in fs t.body

-- the forms that were told stand behind so many others
pub same_form_from : (all fs : List Representation) (n : ℕ) (ts : List TypeDef) → ((k : ℕ) → get_or all (k + n) text ≡ get_or (forms_told fs ts) k text) → (i : ℕ) → representation_seen all (slice_get (told_types fs n ts) i) ≡ representation_seen fs (slice_get ts i)
same_form_from all fs n [] h i = refl
same_form_from all fs n (t ∷ ts) h zero = by t.body (let same : zero + n ≡ n = omega arith in subst (λ m. get_or all m text ≡ form_told (type_seen fs t)) same (h zero))
  where
    by : (b : TypeBody) → get_or all n text ≡ form_told (type_seen fs (with_body t b)) → representation_in all (body_told n (body_seen fs b)) ≡ representation_in fs b
    by (body.Simple form union) e = e
    by (body.Complex c) e = refl
    by body.Ur e = refl
same_form_from all fs n (t ∷ ts) h (suc i) = same_form_from all fs (suc n) ts (λ k. let same : suc k + n ≡ k + suc n = omega arith in subst (λ m. get_or all m text ≡ get_or (forms_told fs ts) k text) same (h (suc k))) i

-- ---- what is made of a declaration
abbrev pub steps_seen : (ℕ → Representation) → Option AttributeDecl → List StepRule
steps_seen representation None = []
steps_seen representation (Some a) = reading (at a.name (representation a.of)) 1 ∷ []

abbrev pub draft_seen : States → (Option Wild → List States) → States → Bool → Option TypeDef → Draft
draft_seen values attributes content empty None = complex_draft [] empty_states
draft_seen values attributes content empty (Some t) = by_body t.body
  where
    by_body : TypeBody → Draft
    by_body (body.Simple form union) = complex_draft [] (if empty then empty_states else values)
    by_body (body.Complex complex) = complex_draft (attributes complex.wild) (if empty then empty_states else content)
    by_body body.Ur = if empty then any_empty_draft else any_draft

module _ (p : Parts) where
  pub same_representation : representation_of (told p) ≡ representation_of p
  same_representation = λ i place. same_form_from (told p).forms p.forms 0 p.types (λ k. let same : k + 0 ≡ k = omega arith in ap (λ m. get_or (told p).forms m text) same) place i

  -- ---- particles
  pub same_element_piece : element_piece (told p) ≡ element_piece p
  same_element_piece = λ i place. one_of_them (map (opening_piece p) (same_stand_ins p i place))

  pub same_term_piece : {f g : ℕ → Piece} → f ≡ g → (t : Term) → term_piece (told p) f t ≡ term_piece p g t
  same_term_piece e (term.Element element) = λ i. same_element_piece i element
  same_term_piece e (term.Group group) = λ i. group_piece (e i) (slice_get p.groups group)
  same_term_piece e (term.Sequence places) = λ i. sequence (map (e i) places)
  same_term_piece e (term.Choice places) = λ i. choice (map (e i) places)
  same_term_piece e (term.Wild wild) = refl

  pub same_particle_piece : {f g : ℕ → Piece} → f ≡ g → (o : Option Particle) → particle_piece (told p) f o ≡ particle_piece p g o
  same_particle_piece e None = refl
  same_particle_piece e (Some x) = λ i. copied x.least x.most (same_term_piece e x.term i)

  pub same_piece_within : (n : ℕ) → piece_within n (told p) ≡ piece_within n p
  same_piece_within zero = refl
  same_piece_within (suc n) = λ i place. same_particle_piece (same_piece_within n) (slice_get p.particles place) i

  pub same_piece : piece_of (told p) ≡ piece_of p
  same_piece = same_piece_within (suc (length p.particles))

  -- ---- contents and attributes
  pub same_values : value_states (told p) ≡ value_states p
  same_values = λ i place. reading_one (reading (ch (same_representation i place)) 1 ∷ [])

  pub same_content_states : (w : Whole) → content_states (told p) w ≡ content_states p w
  same_content_states (value place) = λ i. same_values i place
  same_content_states (elements any particles mixed) = λ i. with_text mixed (sequence (any_pieces any ++ map (same_piece i) particles)).states

  pub same_steps : attribute_steps (told p) ≡ attribute_steps p
  same_steps = λ i place. steps_seen (same_representation i) (slice_get p.attributes place)

  pub same_use_states : use_states (told p) ≡ use_states p
  same_use_states = λ i w attribute required. reading_one (same_steps i attribute ++ (end_unless required ++ wild_steps w))

  pub same_attribute_states : attribute_states (told p) ≡ attribute_states p
  same_attribute_states = λ i place w. map (λ u. same_use_states i w u.attribute u.required) (same_uses p i place) ++ last_wild w

  -- ---- types
  pub same_draft : (place : ℕ) (empty : Bool) → draft_of_type (told p) place empty ≡ draft_of_type p place empty
  same_draft place empty =
      same_in_type p (draft_seen (value_states (told p) place) (attribute_states (told p) place) (content_states (told p) (content_of (told p) place)) empty) (λ n m union t. refl) place
      ∙ (λ i. draft_seen (same_values i place) (same_attribute_states i place) (same_content_states (same_content p i place) i) empty (slice_get p.types place))
