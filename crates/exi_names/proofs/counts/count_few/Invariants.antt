use Rattle.std.proofs.Common.{◌≡◌, ◌≤◌, take}
use Rattle.std.specs.List.{count_by}
use Rattle.exi_names.proofs.Counting.{begins}
use Rattle.exi_names.proofs.counts.count_few.Given as goal

-- the bytes so far are counted
abbrev pub invariant-loop-byte : goal.invariant-loop-byte
invariant-loop-byte l = (l.count ≤ l.byte-index) × (l.count ≡ count_by begins (take l.byte-index l.bytes))
