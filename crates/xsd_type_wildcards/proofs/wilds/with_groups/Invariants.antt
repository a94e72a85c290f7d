use Rattle.std.proofs.Common.{◌≡◌, drop, map}
use Rattle.xsd_type_wildcards.specs.TypeWildcards.{all_together, of_group}
use Rattle.xsd_type_wildcards.specs.Wilds.{wild_told}
use Rattle.xsd_type_wildcards.proofs.wilds.with_groups.Given as goal

abbrev pub invariant-loop-group : goal.invariant-loop-group
invariant-loop-group l = all_together l.found (map (of_group (wild_told l.fn.groups)) (drop l.group-index l.fn.named)) ≡ all_together l.fn.own (map (of_group (wild_told l.fn.groups)) l.fn.named)
