use Rattle.std.proofs.Common.{◌≡◌, drop}
use Rattle.std.specs.List.{list_any}
use Rattle.xsd_conditions.specs.Conditions.{is_missing}
use Rattle.xsd_schema.proofs.facets.is_one_missing.Given as goal

abbrev pub invariant-loop-of : goal.invariant-loop-of
invariant-loop-of l = list_any is_missing (drop l.of-index l.found) ≡ list_any is_missing l.fn.found
