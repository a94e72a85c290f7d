use Rattle.std.proofs.Common.{◌≡◌, ◌<◌, true, false, length, sym, ap, ◌∙◌, subst, arith}
use Rattle.std.proofs.lemmas.Bool.{false≢true, true≢false}
use Rattle.exi_counts.specs.Sizes.{AreSizes, is_due, looked, unknown}
use Rattle.exi_counts.proofs.Sized.{due_or_not, looked_right, looked_same, none_due}
use Rattle.exi_counts.proofs.settling.look_at_all.Goals as goal
use Rattle.exi_counts.proofs.settling.look_at_all.Goals.{then-look, else-look}

pub loop-place-init : goal.loop-place-init
loop-place-init c = record {
  sizes = c.requires.sizes;
  fewer = omega arith;
  more = λ e. absurd (false≢true e);
  settled = λ e place less. absurd (omega (arith, less));
}

pub loop-place-preserved : goal.loop-place-preserved
loop-place-preserved c =
    let p = c.args.elements.now in
    let old = c.loop-place.sizes.items in
    let new = c.look.new.sizes.items in
    let place = c.loop-place.place in
    let are = c.loop-place.invariant.sizes in
    let few = c.loop-place.invariant.fewer in
    let many = are.count in
    let all = c.requires.count in
    let less : place < length p.particles = omega (arith, all, c.loop-place-test.true) in
    let inside : place < length old = omega (arith, less, many) in
    let new_is : new ≡ looked p old place = c.look.ensures.sizes in
    let right : AreSizes p new = subst (AreSizes p) (sym new_is) (looked_right p c.requires.schema old place less are) in
    elim c.if-look.branch [
      | then-look w ↦
          let due : is_due p old place ≡ true = sym c.look.ensures.due ∙ w.if-look.true in
          let fewer = due_or_not p old new place (unknown c.args.sizes.now.items) new_is due inside few in record {
            sizes = right;
            fewer = omega (arith, fewer);
            more = λ e. fewer;
            settled = λ e. absurd (true≢false (sym w.some-is ∙ e));
          }
      | else-look w ↦
          let not : is_due p old place ≡ false = sym c.look.ensures.due ∙ w.if-look.false in
          let same : unknown new ≡ unknown old = ap unknown (new_is ∙ looked_same p old place not) in record {
            sizes = right;
            fewer = omega (arith, same, few);
            more = λ e. let h = c.loop-place.invariant.more (sym w.some-is ∙ e) in omega (arith, same, h);
            settled = λ e. none_due p old new place new_is not (c.loop-place.invariant.settled (sym w.some-is ∙ e));
          }
    ]

pub returns : goal.returns
returns c =
    let all = c.requires.count in record {
      sizes = c.loop-place.invariant.sizes;
      more = c.loop-place.invariant.more;
      settled = λ e place less. c.loop-place.invariant.settled e place (omega (arith, all, less, c.loop-place-test.false));
    }
