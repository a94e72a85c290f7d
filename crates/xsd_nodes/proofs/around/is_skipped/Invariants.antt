use Rattle.std.proofs.Common.{◌≡◌, ◌-◌, length}
use Rattle.std.specs.List.{list_any}
use Rattle.xsd_nodes.specs.Nodes.{is_at, is_skipped, outwards_from}
use Rattle.xsd_nodes.specs.declared.part.Part.TheVariants as part
use Rattle.xsd_nodes.proofs.around.is_skipped.Given as goal

abbrev pub invariant-loop : goal.invariant-loop
invariant-loop l = list_any (is_at l.fn.nodes part.Annotation) (outwards_from (length l.fn.nodes - l.counter) l.fn.nodes l.around) ≡ is_skipped l.fn.nodes l.fn.place
