use Rattle.std.proofs.Common.{◌≡◌, ◌<◌, Global, Vec, Option, length, get_or, sym, ap, ◌∙◌, subst, arith}
use Rattle.exi_counts.specs.Sizes.{AreSizes}
use Rattle.exi_counts.specs.declared.size.Size.{Size}
use Rattle.exi_counts.proofs.Sized.{looked_right}
use Rattle.exi_counts.proofs.settling.look_at_each.Goals as goal
use Rattle.exi_counts.proofs.settling.look_at_each.Goals.{then-place-len, else-place-len}

pub loop-place-preserved : goal.loop-place-preserved
loop-place-preserved c =
    let p = c.args.elements.now in
    let sizes = c.loop-place.sizes in
    let place = get_or c.args.places.now c.loop-place.place-index 0 in
    let many : c.len.result ≡ length sizes.items = c.len.ensures ∙ sizes.ok.0 in
    let count = c.loop-place.invariant.count in
    elim c.if-place-len.branch [
      | then-place-len w ↦
          let less : place < length p.particles = omega (arith, many, count, w.if-place-len.true) in
          subst (AreSizes p) (sym (ap (λ (v : Vec (Option Size) Global). v.items) w.sizes-is ∙ w.look.ensures.sizes)) (looked_right p c.requires.schema sizes.items place less c.loop-place.invariant)
      | else-place-len w ↦ subst (AreSizes p) (sym (ap (λ (v : Vec (Option Size) Global). v.items) w.sizes-is)) c.loop-place.invariant
    ]
