use Rattle.xsd_paths.proofs.Marking.{none_there}
use Rattle.xsd_paths.proofs.paths.Paths.is_whole.Goals as goal

pub returns-in-None : goal.returns-in-None
returns-in-None c = none_there c.self.inside.steps.now c.args.self.now c.self.inside.known.marks.items c.deref.result.now c.args.place c.self.invariant.1 c.deref.ensures.value c.self.view_is c.in-None.ensures.lookup.0
