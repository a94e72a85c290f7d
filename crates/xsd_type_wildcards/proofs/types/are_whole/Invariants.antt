use Rattle.std.proofs.Common.{◌≡◌, drop}
use Rattle.std.specs.List.{list_all}
use Rattle.xsd_paths.specs.Paths.{is_whole, leads_to}
use Rattle.xsd_type_wildcards.proofs.types.are_whole.Given as goal

abbrev pub invariant-loop-group : goal.invariant-loop-group
invariant-loop-group l = list_all (leads_to (is_whole l.fn.paths)) (drop l.group-index l.fn.named) ≡ list_all (leads_to (is_whole l.fn.paths)) l.fn.named
