use Rattle.std.proofs.Common.{◌||◌, List, ap, ◌∙◌}
use Rattle.std.specs.List.{list_any}
use Rattle.xsd_tree.specs.declared.node.Node.{Node}
use Rattle.xsd_derivations.specs.Derivations.{attribute_groups_named}
use Rattle.xsd_paths.specs.Paths.{leads_to}
use Rattle.xsd_type_wildcards.specs.Told.{holds_wild, is_marked}
use Rattle.xsd_type_wildcards.proofs.Named.{own_told_not, own_told_whole}
use Rattle.xsd_type_wildcards.proofs.types.own_told.Goals as goal

pub returns-then-are_whole : goal.returns-then-are_whole
returns-then-are_whole c =
    own_told_whole c.args.paths.now c.args.groups.now c.args.place c.as_slice-named.result.now c.are_whole.result c.has_own.result c.requires.groups
    (c.as_slice-named.ensures.value ∙ c.in_ok-groups_named.ensures ∙ ap (λ (x : List Node). attribute_groups_named x c.args.place) c.schema-schema.ensures)
    c.are_whole.ensures
    c.if-are_whole.true
    (c.has_own.ensures ∙ ap (λ (x : List Node). holds_wild x c.args.place || list_any (leads_to (is_marked c.args.groups.now)) c.as_slice-named.result.now) c.schema-schema.ensures)

pub returns : goal.returns
returns c =
    own_told_not c.args.paths.now c.args.place c.as_slice-named.result.now c.are_whole.result
    (c.as_slice-named.ensures.value ∙ c.in_ok-groups_named.ensures ∙ ap (λ (x : List Node). attribute_groups_named x c.args.place) c.schema-schema.ensures)
    c.are_whole.ensures
    c.if-are_whole.false
