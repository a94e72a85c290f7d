use Rattle.std.proofs.Common.{◌≡◌, ◌≤◌, ap, arith, ◌∙◌, Some}
use Rattle.std.specs.List.{slice_get}
use Rattle.xsd_model.specs.declared.parts.TypeBody.TheVariants as body
use Rattle.xsd_model.specs.declared.parts.TypeDef.{TypeDef}
use Rattle.exi_counts.specs.Counts.{most_states, type_states}
use Rattle.exi_draft.specs.Drafts.{draft_of}
use Rattle.exi_proto.specs.Protos.{draft_of_type}
use Rattle.exi_proto.proofs.Filling.{inside_by}
use Rattle.exi_proto.proofs.Typed.{any_is_made, complex_few, complex_is_made, content_inside, simple_is_made, type_there}
use Rattle.exi_proto.proofs.type_proto.Goals as goal
use Rattle.exi_proto.proofs.type_proto.Goals.{in-Simple+in_ok-proto-in-Simple, in-Complex+in_ok-proto-in-Complex, in-Ur+in_ok-proto-in-Ur}

pub complex_proto-requires-clause-few : goal.complex_proto-requires-clause-few
complex_proto-requires-clause-few c =
    let p = c.args.counts.now in
    let t = c.index-types-of.result in
    let here : slice_get p.types c.args.of ≡ Some t = type_there p c.parts-parts.result.now c.types.result.now c.args.of t (c.parts-parts.ensures ∙ c.elements.ensures) c.types.ensures.types c.requires.exists c.index-types-of.is in
    let is : t.body ≡ body.Complex c.in-Complex.complex = ap (λ (d : TypeDef). d.body) c.index-types-of.is ∙ c.in-Complex.is in
    let few : type_states p c.args.of c.args.empty ≤ most_states = omega (arith, c.if-branch-gt-MOST_STATES.false, c.in_ok-type_states.ensures) in
    complex_few p c.args.of c.args.empty t c.in-Complex.complex here is few

pub complex_proto-requires-clause-inside : goal.complex_proto-requires-clause-inside
complex_proto-requires-clause-inside c = content_inside c.args.counts.now c.parts-parts.result.now c.args.of (c.parts-parts.ensures ∙ c.elements.ensures) c.types.ensures.parts

-- the grammar that is defined
is_made : (c : goal.Joined-types-of) → draft_of c.match-types-of.proto ≡ draft_of_type c.args.counts.now c.args.of c.args.empty
is_made c =
    let p = c.args.counts.now in
    let q = c.parts-parts.result.now in
    let t = c.index-types-of.result in
    let same : q ≡ p = c.parts-parts.ensures ∙ c.elements.ensures in
    let here : slice_get p.types c.args.of ≡ Some t = type_there p q c.types.result.now c.args.of t same c.types.ensures.types c.requires.exists c.index-types-of.is in
    elim c.match-types-of.branch [
      | in-Simple+in_ok-proto-in-Simple w ↦
          simple_is_made p q c.args.of c.args.empty t w.in-Simple.form w.in-Simple.union w.in_ok-proto-in-Simple.proto c.match-types-of.proto here (ap (λ (d : TypeDef). d.body) c.index-types-of.is ∙ w.in-Simple.is) w.proto-is same w.in_ok-proto-in-Simple.ensures
      | in-Complex+in_ok-proto-in-Complex w ↦
          complex_is_made p c.args.of c.args.empty t w.in-Complex.complex w.in_ok-proto-in-Complex.proto c.match-types-of.proto here (ap (λ (d : TypeDef). d.body) c.index-types-of.is ∙ w.in-Complex.is) w.proto-is w.in_ok-proto-in-Complex.ensures
      | in-Ur+in_ok-proto-in-Ur w ↦
          any_is_made p c.args.of c.args.empty t w.in_ok-proto-in-Ur.proto c.match-types-of.proto here (ap (λ (d : TypeDef). d.body) c.index-types-of.is ∙ w.in-Ur.is) w.proto-is w.in_ok-proto-in-Ur.ensures
    ]

pub returns-clause-made : goal.returns-clause-made
returns-clause-made c =
    let few : type_states c.args.counts.now c.args.of c.args.empty ≤ most_states = omega (arith, c.if-branch-gt-MOST_STATES.false, c.in_ok-type_states.ensures) in
    (is_made c, few)

pub returns-clause-inside : goal.returns-clause-inside
returns-clause-inside c = inside_by c.args.counts.now c.args.of c.args.empty (draft_of c.match-types-of.proto) (is_made c)
