use Rattle.std.proofs.Common.{◌≡◌, ◌≤◌, ◌*◌, ◌^◌, map, take}
use Rattle.exi_gram.specs.Additions.{rule_count}
use Rattle.exi_gram.specs.Terminals.{rule}
use Rattle.exi_codes.proofs.early.count_of.Given as goal

abbrev pub invariant-loop-state : goal.invariant-loop-state
invariant-loop-state l = (l.count ≡ rule_count (map (map rule) (take l.state-index l.states))) × (l.count ≤ l.state-index * 2 ^ 30)
