use Rattle.std.proofs.Common.{◌≡◌, ◌-◌, length}
use Rattle.xsd_nodes.specs.Nodes.{last_of, outwards_from, root}
use Rattle.xsd_nodes.proofs.around.root.Given as goal

abbrev pub invariant-loop : goal.invariant-loop
invariant-loop l = last_of l.last (outwards_from (length l.fn.nodes - l.counter) l.fn.nodes l.around) ≡ root l.fn.nodes l.fn.place
