use Rattle.std.proofs.Common.{◌≡◌, true, take}
use Rattle.std.specs.List.{list_all}
use Rattle.xsd_derivations.specs.Derivations.{attribute_groups_named}
use Rattle.xsd_paths.specs.Paths.{is_whole, leads_to}
use Rattle.xsd_paths.proofs.paths.Paths.has_whole_groups.Given as goal

abbrev pub invariant-loop-group : goal.invariant-loop-group
invariant-loop-group l = list_all (leads_to (is_whole l.fn.self)) (take l.group-index (attribute_groups_named l.fn.self l.fn.place)) ≡ true
