use Rattle.std.proofs.Common.{rules}
use Rattle.xsd_schema.proofs.WholeSimple.{found_whole}
use Rattle.xsd_schema.proofs.facets.type_restricted.Goals as goal

pub returns-then-is_whole-clause-whole : goal.returns-then-is_whole-clause-whole
returns-then-is_whole-clause-whole c = found_whole c.args.simples.now.nodes c.in-Some.place c.restricted_type.result (search rules) (search rules) (search rules)
