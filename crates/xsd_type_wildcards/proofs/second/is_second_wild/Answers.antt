use Rattle.std.proofs.Common.{List, ap, ◌∙◌}
use Rattle.xsd_tree.specs.declared.node.Node.{Node}
use Rattle.xsd_components.specs.References.{base}
use Rattle.xsd_type_wildcards.specs.TypeWildcards.{derives_content, has_wild_base}
use Rattle.xsd_type_wildcards.proofs.Sourced.{is_not_second, is_second}
use Rattle.xsd_type_wildcards.proofs.second.is_second_wild.Goals as goal

pub returns-then-not-is_told : goal.returns-then-not-is_told
returns-then-not-is_told c = is_not_second c.args.paths.now c.args.place c.is_told.result c.in_ok-own.own c.in_ok-own.ensures c.is_told.ensures c.if-not-is_told.true

pub returns : goal.returns
returns c =
    is_second c.args.paths.now c.args.place c.derives_content.result c.is_told.result c.has_wild_base.result c.in_ok-own.own
    (c.derives_content.ensures ∙ ap (λ (x : List Node). derives_content x c.args.place) c.schema-schema.ensures)
    c.if-not-derives_content.false
    c.in_ok-own.ensures
    c.is_told.ensures
    c.if-not-is_told.false
    (c.has_wild_base.ensures ∙ ap (has_wild_base c.args.paths.now c.args.place) (c.in_ok-base.ensures ∙ ap (λ (x : List Node). base x c.args.place) c.schema-schema.ensures))
