use Rattle.xsd_schema.proofs.Told.{told_fit}
use Rattle.xsd_schema.specs.Parts.{parts_in}
use Rattle.xsd_schema.proofs.fitted.parts_of.Goals as goal

pub fitted-requires-clause-parts : goal.fitted-requires-clause-parts
fitted-requires-clause-parts c = told_fit c.args.joined c.args.tree.now (parts_in c.in-Ok.declared) c.nodes.ensures.tree c.in-Ok.ensures.parts c.in-Ok.ensures.types
