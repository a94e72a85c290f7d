use Rattle.std.proofs.Common.{◌≡◌, ◌≤◌, ◌++◌, drop, filter, length, map, reverse}
use Rattle.exi_gram.specs.Additions.{is_attribute}
use Rattle.exi_gram.specs.Terminals.{rule}
use Rattle.exi_codes.proofs.early.push_attributes.Given as goal

abbrev pub invariant-loop-place : goal.invariant-loop-place
invariant-loop-place l = (l.place ≤ length l.state) × (reverse l.stack.items ≡ map (λ r. r.to) (filter is_attribute (map rule (drop l.place l.state))) ++ reverse l.fn.stack.items)

abbrev pub decreases-loop-place : goal.decreases-loop-place
decreases-loop-place l = l.place
