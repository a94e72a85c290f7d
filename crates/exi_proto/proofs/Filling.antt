-- Contents and types, as their states are made.
use Rattle.std.proofs.Common.{◌≡◌, ◌<◌, ◌≤◌, ℕ, suc, Bool, min, Some, None, List, ◌++◌, All, length, map, slice_get, sym, ap, subst, ◌∙◌, arith}
use Rattle.std.proofs.lemmas.List.Elements.{All-nil}
use Rattle.exi_gram.specs.declared.grammar.Step.{Step}
use Rattle.xsd_model.specs.declared.parts.TypeBody.{TypeBody}
use Rattle.xsd_model.specs.declared.parts.TypeDef.{TypeDef}
use Rattle.xsd_model.specs.Parts.{Parts}
use Rattle.exi_counts.specs.Kinds.{AreParticlesOf}
use Rattle.exi_inherited.specs.Contents.{Whole, elements, value}
use Rattle.exi_draft.specs.Drafts.{Draft, LeadsInside, States}
use Rattle.exi_proto.specs.Attributes.{made_of}
use Rattle.exi_proto.specs.Contents.{particles_in, text_at}
use Rattle.exi_proto.specs.Pieces.{sequence}
use Rattle.exi_proto.specs.Places.{lined, set}
use Rattle.exi_proto.specs.Protos.{any_pieces, body_draft, content_states, draft_of_type, piece_of, type_draft}
use Rattle.exi_proto.proofs.Behind.{text_set}
use Rattle.exi_proto.proofs.Inside.{leads_inside}
use Rattle.exi_proto.proofs.Placing.{set-sequence}

-- ---- contents
pub content_elements : (p : Parts) (any : Bool) (xs : List ℕ) (mixed : Bool) (old new : List (List Step)) (more : States) (f : ℕ) → f ≡ length old → more ≡ lined f 0 None (any_pieces any ++ map (piece_of p) xs) → made_of new ≡ made_of old ++ text_at mixed (length old) more → made_of new ≡ made_of old ++ set (length old) 0 None (content_states p (elements any xs mixed))
content_elements p any xs mixed old new more f first are e =
    e ∙ ap (λ (x : States). made_of old ++ x)
    (ap (text_at mixed (length old)) (are ∙ ap (λ (k : ℕ). lined k 0 None (any_pieces any ++ map (piece_of p) xs)) first ∙ sym (set-sequence (length old) 0 None (any_pieces any ++ map (piece_of p) xs)))
    ∙ text_set mixed (length old) (sequence (any_pieces any ++ map (piece_of p) xs)).states)

pub in_content : (p : Parts) (w v : Whole) → v ≡ w → AreParticlesOf p w → All (λ place. place < length p.particles) (particles_in v)
in_content p w v is there = by v (subst (AreParticlesOf p) (sym is) there)
  where
    by : (v : Whole) → AreParticlesOf p v → All (λ place. place < length p.particles) (particles_in v)
    by (value place) h = All-nil (λ place. place < length p.particles)
    by (elements any particles mixed) h = h

-- ---- types
pub draft_is : (p : Parts) (of : ℕ) (empty : Bool) (t : TypeDef) (b : TypeBody) → slice_get p.types of ≡ Some t → t.body ≡ b → draft_of_type p of empty ≡ body_draft p of empty b
draft_is p of empty t b at is = ap (type_draft p of empty) at ∙ ap (body_draft p of empty) is

pub states_in : (told n most : ℕ) → told ≡ min n (suc most) → told ≤ most → n ≤ most
states_in told n most is le = omega (arith, is, le)

pub states_over : (told n most : ℕ) → told ≡ min n (suc most) → most < told → most < n
states_over told n most is less = omega (arith, is, less)

pub inside_by : (p : Parts) (of : ℕ) (empty : Bool) (d : Draft) → d ≡ draft_of_type p of empty → LeadsInside d
inside_by p of empty d is = subst LeadsInside (sym is) (leads_inside p of empty)
