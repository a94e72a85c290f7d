use Rattle.std.proofs.Common.{◌≡◌, ℕ, ◌<◌, cond, min, Some, List, get_or, length, sym, ap, ◌∙◌}
use Rattle.std.specs.List.{slice_get}
use Rattle.xsd_model.specs.declared.parts.TypeBody.TheVariants as body
use Rattle.xsd_model.specs.declared.parts.TypeDef.{TypeDef}
use Rattle.xsd_model.specs.Parts.{Parts}
use Rattle.exi_counts.proofs.ContentParticles.{states_simple}
use Rattle.exi_counts.proofs.InnerEnds.{slot_is}
use Rattle.exi_counts.proofs.counts.Counts.type_states.Goals as goal

-- what stands at the place
slot : (p q r : Parts) (types : List TypeDef) (place : ℕ) (t : TypeDef) → r ≡ q → q ≡ p → types ≡ r.types → place < length p.types → t ≡ get_or types place t → slice_get p.types place ≡ Some t
slot p q r types place t one same there less at =
    slot_is p.types place t less ∙ ap Some (sym (at ∙ ap (λ (l : List TypeDef). get_or l place t) (there ∙ ap (λ (x : Parts). x.types) (one ∙ same))))

pub returns-then-empty : goal.returns-then-empty
returns-then-empty c =
    let p = c.args.self.now in
    let t = c.index-types-of.result in
    let here : slice_get p.types c.args.of ≡ Some t = slot p c.elements.result.now c.parts-parts.result.now c.types.result.now c.args.of t c.parts-parts.ensures c.elements.ensures c.types.ensures.types c.requires.exists c.index-types-of.is in
    let simple : t.body ≡ body.Simple c.in-Simple.form c.in-Simple.union = ap (λ (d : TypeDef). d.body) c.index-types-of.is ∙ c.in-Simple.is in
    sym (ap (λ n. min n 65537) (states_simple p c.args.of c.args.empty t c.in-Simple.form c.in-Simple.union here simple ∙ ap (λ b. cond b 1 2) c.if-empty.true))

pub returns-else-empty : goal.returns-else-empty
returns-else-empty c =
    let p = c.args.self.now in
    let t = c.index-types-of.result in
    let here : slice_get p.types c.args.of ≡ Some t = slot p c.elements.result.now c.parts-parts.result.now c.types.result.now c.args.of t c.parts-parts.ensures c.elements.ensures c.types.ensures.types c.requires.exists c.index-types-of.is in
    let simple : t.body ≡ body.Simple c.in-Simple.form c.in-Simple.union = ap (λ (d : TypeDef). d.body) c.index-types-of.is ∙ c.in-Simple.is in
    sym (ap (λ n. min n 65537) (states_simple p c.args.of c.args.empty t c.in-Simple.form c.in-Simple.union here simple ∙ ap (λ b. cond b 1 2) c.if-empty.false))
