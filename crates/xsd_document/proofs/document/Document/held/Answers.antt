use Rattle.xsd_document.proofs.Below.{none_there}
use Rattle.xsd_document.proofs.document.Document.held.Goals as goal

pub returns-in-None : goal.returns-in-None
returns-in-None c = none_there c.self.inside.nodes.now c.args.self.now c.self.inside.held.items c.deref.result.now c.args.place c.self.invariant.0 c.self.invariant.1 c.deref.ensures.value c.self.view_is c.in-None.ensures.lookup.0
