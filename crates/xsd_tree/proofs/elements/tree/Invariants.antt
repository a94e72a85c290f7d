use Rattle.std.proofs.Common.{map}
use Rattle.std.specs.Prelude.{reverse}
use Rattle.exi_names.specs.Events.{happens}
use Rattle.xsd_tree.proofs.Reached.{Reached}
use Rattle.xsd_tree.proofs.elements.tree.Given as goal

abbrev pub invariant-loop-index : goal.invariant-loop-index
invariant-loop-index l = Reached (map happens l.fn.events) l.index (reverse l.open_nodes.items) l.nodes
