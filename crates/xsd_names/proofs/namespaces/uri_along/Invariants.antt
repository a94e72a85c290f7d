use Rattle.std.proofs.Common.{◌≡◌, ◌-◌, length}
use Rattle.xsd_nodes.specs.Nodes.{outwards, outwards_from}
use Rattle.xsd_names.specs.Names.{uri_along}
use Rattle.xsd_names.proofs.namespaces.uri_along.Given as goal

abbrev pub invariant-loop : goal.invariant-loop
invariant-loop l = uri_along l.fn.prefix l.fn.nodes (outwards_from (length l.fn.nodes - l.counter) l.fn.nodes l.around) ≡ uri_along l.fn.prefix l.fn.nodes (outwards l.fn.nodes l.fn.place)
