use Rattle.std.proofs.Common.{◌≡◌, length}
use Rattle.xsd_type_wildcards.proofs.wilds.no_wilds.Given as goal

abbrev pub invariant-loop : goal.invariant-loop
invariant-loop l = length l.wilds.items ≡ l.counter
