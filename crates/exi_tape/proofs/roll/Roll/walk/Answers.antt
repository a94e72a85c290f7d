use Rattle.std.proofs.Common.{◌≡◌, ◌++◌, ◌∙◌, map, ap, sym, rules, arith, option_copied}
use Rattle.exi_pool.specs.Pages.{before, chain}
use Rattle.exi_tape.specs.Rolls.{backwards, content}
use Rattle.exi_tape.proofs.Pieces.{chained, walked}
use Rattle.exi_tape.proofs.roll.Roll.walk.Goals as goal

pub loop-page-preserved : goal.loop-page-preserved
loop-page-preserved c =
    let this = c.in-Some.this.now in let used = c.loop-page.used in let later = c.loop-page.later.items in
    let is : chain (option_copied c.loop-page.page) ≡ this = ap (λ r. chain (option_copied r)) c.in-Some.is in
    record {
      left = walked (λ s. s.now) this (chain (option_copied c.before-page.result)) used _ later c.push.new.self.items c.args.self.now.bytes (chained c.before-page.result (before this) c.before-page.ensures.before) (search rules) c.in_ok-push.ensures.items
          (ap (λ p. content p used ++ backwards (map (λ s. s.now) later)) (sym is) ∙ c.loop-page.invariant.left);
      used = omega arith;
    }
