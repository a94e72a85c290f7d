use Rattle.std.proofs.Common.{◌≡◌, drop}
use Rattle.std.specs.List.{list_any}
use Rattle.xsd_paths.specs.Paths.{leads_to}
use Rattle.xsd_type_wildcards.specs.Told.{is_marked}
use Rattle.xsd_type_wildcards.proofs.groups.names_wild.Given as goal

abbrev pub invariant-loop-group : goal.invariant-loop-group
invariant-loop-group l = list_any (leads_to (is_marked l.fn.groups)) (drop l.group-index l.fn.named) ≡ list_any (leads_to (is_marked l.fn.groups)) l.fn.named
