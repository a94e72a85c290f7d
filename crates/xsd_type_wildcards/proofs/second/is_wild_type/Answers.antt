use Rattle.std.proofs.Common.{◌&&◌, sym, ap, ◌∙◌}
use Rattle.xsd_nodes.specs.Nodes.{has}
use Rattle.xsd_type_wildcards.specs.TypeWildcards.{has_all_groups, type_wild}
use Rattle.xsd_type_wildcards.proofs.Sourced.{wild_type_found}
use Rattle.xsd_type_wildcards.proofs.second.is_wild_type.Goals as goal

pub returns-then-not-is_whole_type : goal.returns-then-not-is_whole_type
returns-then-not-is_whole_type c =
    ap (λ b. b && has_all_groups c.args.paths.now c.args.of && has (type_wild c.args.paths.now c.args.of)) (sym c.if-not-is_whole_type.true ∙ c.is_whole_type.ensures)

pub returns : goal.returns
returns c = wild_type_found c.args.paths.now c.args.types.now c.args.of c.is_whole_type.result c.is_present.result c.told_in.result c.requires.types c.is_whole_type.ensures c.if-not-is_whole_type.false c.told_in.ensures c.is_present.ensures
