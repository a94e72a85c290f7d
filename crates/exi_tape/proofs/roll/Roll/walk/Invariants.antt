use Rattle.std.proofs.Common.{◌≡◌, ◌≤◌, ◌++◌, length, map, option_copied}
use Rattle.exi_pool.specs.Pages.{chain}
use Rattle.exi_tape.specs.Rolls.{backwards, content}
use Rattle.exi_tape.proofs.roll.Roll.walk.Given as goal

abbrev pub invariant-loop-page : goal.invariant-loop-page
invariant-loop-page l = record {
  left : content (chain (option_copied l.page)) l.used ++ backwards (map (λ s. s.now) l.later.items) ≡ l.self.bytes;
  used : l.used ≤ 4096;
}

abbrev pub decreases-loop-page : goal.decreases-loop-page
decreases-loop-page l = length (chain (option_copied l.page))
