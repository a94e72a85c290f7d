use Rattle.std.proofs.Common.{ap}
use Rattle.xsd_nodes.specs.Nodes.{first}
use Rattle.xsd_document.proofs.Found.{children_are}
use Rattle.xsd_document.proofs.document.Document.child.Goals as goal

pub loop-one-init : goal.loop-one-init
loop-one-init c = ap first (children_are c.args.self.now c.args.parts.now c.args.place)
