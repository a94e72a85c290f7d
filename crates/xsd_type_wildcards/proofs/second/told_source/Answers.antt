use Rattle.std.proofs.Common.{◌≡◌, Some, None, sym, ◌∙◌}
use Rattle.std.proofs.lemmas.Option.{none-some}
use Rattle.xsd_type_wildcards.specs.Sources.{source_of}
use Rattle.xsd_type_wildcards.proofs.Sourced.{source_is}
use Rattle.xsd_type_wildcards.proofs.second.told_source.Goals as goal

pub returns-in-Some : goal.returns-in-Some
returns-in-Some c =
    let e : Some c.in-Some.source ≡ Some (source_of c.args._paths.now c.args.of) = sym c.in-Some.is ∙ c.told_in.ensures ∙ source_is c.args._paths.now c.args.types.now c.args.of c.requires.types c.requires.whole c.requires.groups in cc

pub returns-in-None : goal.returns-in-None
returns-in-None c =
    let e : None ≡ Some (source_of c.args._paths.now c.args.of) = sym c.in-None.is ∙ c.told_in.ensures ∙ source_is c.args._paths.now c.args.types.now c.args.of c.requires.types c.requires.whole c.requires.groups in absurd (none-some (source_of c.args._paths.now c.args.of) e)
