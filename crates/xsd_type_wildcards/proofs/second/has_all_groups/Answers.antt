use Rattle.std.proofs.Common.{ap, ◌∙◌}
use Rattle.std.specs.Option.{is_some}
use Rattle.xsd_type_wildcards.proofs.Sourced.{all_groups_told}
use Rattle.xsd_type_wildcards.proofs.second.has_all_groups.Goals as goal

pub returns : goal.returns
returns c = c.is_some.ensures ∙ ap is_some c.told_in.ensures ∙ all_groups_told c.args._paths.now c.args.types.now c.args.of c.requires.types c.requires.whole
