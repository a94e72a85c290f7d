-- The grammar of a type, by what it is.
use Rattle.std.proofs.Common.{◌≡◌, ◌<◌, ◌≤◌, ℕ, ◌+◌, ◌*◌, Bool, cond, Some, List, [], get_or, length, slice_get, sym, ap, subst, ◌∙◌}
use Rattle.exi_gram.specs.declared.grammar.Proto.{Proto}
use Rattle.xsd_model.specs.declared.parts.Complex.{Complex}
use Rattle.xsd_model.specs.declared.parts.TypeBody.{TypeBody}
use Rattle.xsd_model.specs.declared.parts.TypeBody.TheVariants as body
use Rattle.xsd_model.specs.declared.parts.TypeDef.{TypeDef}
use Rattle.xsd_model.specs.Parts.{IsSchemaParts, Parts}
use Rattle.exi_counts.specs.Counts as count
use Rattle.exi_counts.specs.Counts.{most_states, type_states, wild_states}
use Rattle.exi_counts.specs.Kinds.{AreParticlesOf}
use Rattle.exi_counts.proofs.ContentParticles.{content_there, states_complex}
use Rattle.exi_counts.proofs.InnerEnds.{slot_is}
use Rattle.exi_inherited.specs.Contents.{content_of}
use Rattle.exi_inherited.specs.Uses.{uses_of}
use Rattle.exi_draft.specs.Drafts.{draft_of}
use Rattle.exi_proto.specs.Pieces.{empty_states}
use Rattle.exi_proto.specs.Protos.{any_draft, any_empty_draft, attribute_states, body_draft, complex_draft, content_states, draft_of_type, value_states}
use Rattle.exi_proto.proofs.Filling.{draft_is}

-- what stands at the place, as code finds it
pub type_there : (p q : Parts) (types : List TypeDef) (place : ℕ) (t : TypeDef) → q ≡ p → types ≡ q.types → place < length p.types → t ≡ get_or types place t → slice_get p.types place ≡ Some t
type_there p q types place t same there less at =
    slot_is p.types place t less ∙ ap (λ (x : TypeDef). Some x) (sym (at ∙ ap (λ (l : List TypeDef). get_or l place t) (there ∙ ap (λ (x : Parts). x.types) same)))

-- what a complex type counts
pub complex_few : (p : Parts) (of : ℕ) (empty : Bool) (t : TypeDef) (complex : Complex) → slice_get p.types of ≡ Some t → t.body ≡ body.Complex complex → type_states p of empty ≤ most_states → 2 * length (uses_of p of) + (wild_states complex.wild + cond empty 1 (count.content_states p (content_of p of))) ≤ most_states
complex_few p of empty t complex at is few = subst (λ (n : ℕ). n ≤ most_states) (states_complex p of empty t complex at is) few

-- the particles of its content are there
pub content_inside : (p q : Parts) (of : ℕ) → q ≡ p → IsSchemaParts q → AreParticlesOf p (content_of p of)
content_inside p q of same schema = content_there p (subst IsSchemaParts same schema) of

-- ---- the grammar that was made
made_so : (p : Parts) (of : ℕ) (empty : Bool) (t : TypeDef) (b : TypeBody) (made whole : Proto) → slice_get p.types of ≡ Some t → t.body ≡ b → whole ≡ made → draft_of made ≡ body_draft p of empty b → draft_of whole ≡ draft_of_type p of empty
made_so p of empty t b made whole at is so e = ap draft_of so ∙ e ∙ sym (draft_is p of empty t b at is)

pub simple_is_made : (p q : Parts) (of : ℕ) (empty : Bool) (t : TypeDef) (form : ℕ) (union : Bool) (made whole : Proto) → slice_get p.types of ≡ Some t → t.body ≡ body.Simple form union → whole ≡ made → q ≡ p → draft_of made ≡ complex_draft [] (cond empty empty_states (value_states q of)) → draft_of whole ≡ draft_of_type p of empty
simple_is_made p q of empty t form union made whole at is so same e =
    made_so p of empty t (body.Simple form union) made whole at is so (e ∙ ap (λ (x : Parts). complex_draft [] (cond empty empty_states (value_states x of))) same)

pub complex_is_made : (p : Parts) (of : ℕ) (empty : Bool) (t : TypeDef) (complex : Complex) (made whole : Proto) → slice_get p.types of ≡ Some t → t.body ≡ body.Complex complex → whole ≡ made → draft_of made ≡ complex_draft (attribute_states p of complex.wild) (cond empty empty_states (content_states p (content_of p of))) → draft_of whole ≡ draft_of_type p of empty
complex_is_made p of empty t complex made whole at is so e = made_so p of empty t (body.Complex complex) made whole at is so e

pub any_is_made : (p : Parts) (of : ℕ) (empty : Bool) (t : TypeDef) (made whole : Proto) → slice_get p.types of ≡ Some t → t.body ≡ body.Ur → whole ≡ made → draft_of made ≡ cond empty any_empty_draft any_draft → draft_of whole ≡ draft_of_type p of empty
any_is_made p of empty t made whole at is so e = made_so p of empty t body.Ur made whole at is so e
