use Rattle.std.proofs.Common.{◌≡◌, ℕ, ◌<◌, Option, Some, List, get_or, length, sym, ap, ◌∙◌, subst}
use Rattle.std.specs.List.{slice_get}
use Rattle.xsd_model.specs.declared.parts.Particle.{Particle}
use Rattle.xsd_model.specs.Parts.{IsSchemaParts, Parts}
use Rattle.exi_counts.specs.Counts.{copies}
use Rattle.exi_counts.specs.Sizes.{copied_size, particle_size, with_next}
use Rattle.exi_counts.specs.declared.size.Size.{Size}
use Rattle.exi_counts.proofs.InnerEnds.{slot_is, term_below, term_of}
use Rattle.exi_counts.proofs.size.particle_size.Goals as goal

-- what stands at the place
slot : (p q : Parts) (particles : List Particle) (place : ℕ) (x : Particle) → q ≡ p → particles ≡ q.particles → place < length p.particles → x ≡ get_or particles place x → slice_get p.particles place ≡ Some x
slot p q particles place x same there less at =
    slot_is p.particles place x less ∙ ap Some (sym (at ∙ ap (λ (l : List Particle). get_or l place x) (there ∙ ap (λ (r : Parts). r.particles) same)))

pub term_size-requires : goal.term_size-requires
term_size-requires c =
    let p = c.args.elements.now in
    let x = c.index-particles-place.result in
    let schema : IsSchemaParts p = subst IsSchemaParts c.parts.ensures c.particles.ensures.parts in
    let here : slice_get p.particles c.args.place ≡ Some x = slot p c.parts.result.now c.particles.result.now c.args.place x c.parts.ensures c.particles.ensures.particles c.requires.exists c.index-particles-place.is in
    record { there = term_below p schema c.args.place (length c.args.sizes.now) x.term c.requires.count (term_of p schema c.args.place x here) }

pub returns-in_err-size : goal.returns-in_err-size
returns-in_err-size c =
    let p = c.args.elements.now in
    let x = c.index-particles-place.result in
    let here : slice_get p.particles c.args.place ≡ Some x = slot p c.parts.result.now c.particles.result.now c.args.place x c.parts.ensures c.particles.ensures.particles c.requires.exists c.index-particles-place.is in
    c.from_residual.ensures
    ∙ sym (ap (particle_size p c.args.sizes.now) here ∙ ap (λ (o : Option Size). with_next o (λ size. Some (copied_size (copies x.least x.most) size))) (sym c.term_size.ensures ∙ c.in_err-size.was))

pub returns : goal.returns
returns c =
    let p = c.args.elements.now in
    let x = c.index-particles-place.result in
    let here : slice_get p.particles c.args.place ≡ Some x = slot p c.parts.result.now c.particles.result.now c.args.place x c.parts.ensures c.particles.ensures.particles c.requires.exists c.index-particles-place.is in
    ap Some (c.copied_size.ensures ∙ ap (λ n. copied_size n c.in_ok-size.size) c.copies.ensures.copies)
    ∙ sym (ap (particle_size p c.args.sizes.now) here ∙ ap (λ (o : Option Size). with_next o (λ size. Some (copied_size (copies x.least x.most) size))) (sym c.term_size.ensures ∙ c.in_ok-size.was))
