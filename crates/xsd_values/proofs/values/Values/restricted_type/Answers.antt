use Rattle.std.proofs.Common.{◌≡◌, true, Option, None, List, IfSome, subst, sym, ap, ◌∙◌}
use Rattle.std.proofs.lemmas.Bool.{cond-true}
use Rattle.xsd_tree.specs.declared.node.Node.{Node}
use Rattle.xsd_nodes.specs.Nodes.{holder}
use Rattle.xsd_nodes.specs.PartNames.{is_part}
use Rattle.xsd_nodes.specs.declared.part.Part.TheVariants as part
use Rattle.xsd_components.specs.References.{base, inline}
use Rattle.xsd_components.specs.declared.type_at.TypeAt.{TypeAt}
use Rattle.xsd_paths.specs.Paths.{is_whole_type}
use Rattle.xsd_values.specs.Restricted.{or_value_of_base, value_of_base}
use Rattle.xsd_values.proofs.Bases.{restricted_whole}
use Rattle.xsd_values.proofs.values.Values.restricted_type.Goals as goal

pub returns-in-None : goal.returns-in-None
returns-in-None c whole =
    let ns = c.args.self.now in
    let place = c.args.place in
    let schema_is : c.schema-schema.result.now ≡ ns = c.schema-schema.ensures in
    let base_is : c.in_ok-base.base ≡ base ns place = c.in_ok-base.ensures ∙ ap (λ (x : List Node). base x place) schema_is in
    let base_whole : IfSome c.in_ok-base.base (λ t. is_whole_type ns t ≡ true) =
    subst (λ (b : Option TypeAt). IfSome b (λ t. is_whole_type ns t ≡ true)) (sym base_is) (restricted_whole ns place c.requires.restriction whole) in
    let nodes_is : c.nodes.result.now ≡ ns = c.nodes.ensures.nodes ∙ c.document.ensures ∙ schema_is in
    let simple : is_part part.SimpleContent (holder ns place) ≡ true =
    ap (λ (x : List Node). is_part part.SimpleContent (holder x place)) (sym nodes_is)
    ∙ ap (is_part part.SimpleContent) (sym c.holder.ensures)
    ∙ sym c.is_part.ensures
    ∙ c.if-not-is_part.false in
    let none_within : inline ns place ≡ None = ap (λ (x : List Node). inline x place) (sym schema_is) ∙ sym c.inline.ensures ∙ c.in-None.is in
    c.value_of_base.ensures base_whole
    ∙ ap (value_of_base ns) base_is
    ∙ ap (λ (o : Option TypeAt). or_value_of_base ns o (base ns place)) (sym none_within)
    ∙ sym (cond-true (is_part part.SimpleContent (holder ns place)) (or_value_of_base ns (inline ns place) (base ns place)) (base ns place) simple)
