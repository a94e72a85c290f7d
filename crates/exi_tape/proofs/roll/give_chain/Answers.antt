use Rattle.std.proofs.Common.{◌≡◌, [], ◌∷◌, length, ap, arith, ◌∙◌}
use Rattle.exi_pool.specs.Pages.{chain, numbers, number_of}
use Rattle.exi_pool.specs.Passes.{view_of}
use Rattle.exi_pool.specs.Views.{one_if, gives}
use Rattle.exi_pool.proofs.Sums.{total-append}
use Rattle.exi_tape.specs.Rolls.{times}
use Rattle.exi_tape.proofs.Moves.{parted, fewer}
use Rattle.exi_tape.proofs.roll.give_chain.Goals as goal

pub loop-next-smaller : goal.loop-next-smaller
loop-next-smaller g c =
    let is = ap (λ x. chain x) c.in-Some.is in let rest = c.part-next.ensures.rest in
    omega (arith, ap length is, ap length rest, fewer c.in-Some.page c.part-next.ensures.some)

pub loop-next-preserved : goal.loop-next-preserved
loop-next-preserved g c =
    let inv = c.loop-next.invariant in let page = c.in-Some.page in let mid = view_of c.loop-next.pass in
    let is = ap (λ x. chain x) c.in-Some.is in let rest = c.part-next.ensures.rest in
    let same : number_of c.part-next.new.self ≡ number_of page = ap number_of c.part-next.ensures.page in (
      c.give.ensures.of,
      (λ n. omega (
        arith,
        inv.1 n,
        ap (gives n) c.give.ensures.gave,
        total-append (one_if n) mid.gives (number_of c.part-next.new.self ∷ []),
        ap (one_if n) same,
        ap (λ l. times n (numbers l)) is,
        ap (times n) (parted page c.part-next.ensures.some),
        ap (λ l. times n (numbers l)) rest,
      )),
      ap (λ v. v.takes) c.give.ensures.gave ∙ inv.2,
      c.give.ensures.dry ∙ inv.3,
      (ap (λ v. v.number) c.give.ensures.gave ∙ inv.4.0, ap (λ v. v.made) c.give.ensures.gave ∙ inv.4.1, ap (λ v. v.firsts) c.give.ensures.gave ∙ inv.4.2),
    )
