use Rattle.std.proofs.Common.{Option, List, option_map, ap, ◌∙◌}
use Rattle.xsd_components.specs.declared.type_at.TypeAt.{TypeAt}
use Rattle.xsd_model.specs.declared.parts.Wild.{Wild}
use Rattle.xsd_particles.specs.Particles.{complex_def, wild_of}
use Rattle.xsd_schema.specs.Documents.{value_told, wild_told}
use Rattle.xsd_tree.specs.declared.node.Node.{Node}
use Rattle.xsd_schema.specs.Seen.{type_seen}
use Rattle.xsd_schema.proofs.types.complex_type.Goals as goal

pub returns-clause-of : goal.returns-clause-of
returns-clause-of c =
    let ns = c.args.simples.now.nodes in
    let place = c.args.place in
    ap (type_seen c.args.simples.now.forms)
    (c.in_ok-found.ensures
    ∙ ap (λ (x : List Node). complex_def x c.in_ok-wild.wild c.value_told-value.result place) c.requires.places
    ∙ ap (λ (w : Option Wild). complex_def ns w c.value_told-value.result place) (c.in_ok-wild.ensures ∙ ap (λ (x : List Node). option_map wild_of (wild_told x place)) c.requires.wilds)
    ∙ ap (λ (v : Option TypeAt). complex_def ns (option_map wild_of (wild_told ns place)) v place) (c.value_told-value.ensures ∙ ap (λ (x : List Node). value_told x place) c.values.ensures))
