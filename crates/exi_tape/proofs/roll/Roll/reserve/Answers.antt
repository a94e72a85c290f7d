use Rattle.std.proofs.Common.{[], ◌∷◌, length, ap, arith, ◌∙◌, length-append}
use Rattle.exi_pool.specs.Pages.{number_of}
use Rattle.exi_pool.specs.Passes.{view_of}
use Rattle.exi_pool.specs.Views.{one_if, takes}
use Rattle.exi_pool.proofs.Sums.{total-append}
use Rattle.exi_tape.specs.Rolls.{times}
use Rattle.exi_tape.proofs.roll.Roll.reserve.Goals as goal

pub loop-pass-preserved : goal.loop-pass-preserved
loop-pass-preserved g c =
    let inv = c.loop-pass.invariant in let took = c.in-Some.ensures.took in let was = view_of c.loop-pass.pass in let p = number_of c.in-Some.page in
    let one = ap (λ v. length v.takes) took in let longer = length-append was.takes (p ∷ []) in let test = c.loop-pass-test.true in (
      c.take.ensures.of,
      c.add.ensures.bytes ∙ inv.1,
      (λ n. omega (arith, inv.2 n, ap (times n) c.add.ensures.pages, ap (takes n) took, total-append (one_if n) was.takes (p ∷ []))),
      ap (λ v. v.gives) took ∙ inv.3,
      omega (arith, inv.5, one, longer, test, c.room.ensures),
      omega (arith, inv.5, one, longer, c.add.ensures.room),
      omega (arith, inv.6, c.in-Some.ensures.counted),
      (ap (λ v. v.number) took ∙ inv.7.0, ap (λ v. v.made) took ∙ inv.7.1, ap (λ v. v.firsts) took ∙ inv.7.2),
    )
