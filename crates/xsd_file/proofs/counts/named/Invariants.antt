use Rattle.std.proofs.Common.{◌≡◌, ◌+◌, ◌≤◌, Fits, drop, filter, length, w64}
use Rattle.xsd_file.specs.Counts.{has_name}
use Rattle.xsd_file.proofs.counts.named.Given as goal

abbrev pub invariant-loop-place : goal.invariant-loop-place
invariant-loop-place l =
    (l.count + length (filter has_name (drop l.place l.fn.types)) ≡ length (filter has_name l.fn.types))
    × (l.count ≤ l.place)
    × Fits w64 (length l.fn.types)
