use Rattle.std.proofs.Common.{ap, map, ◌++◌, ◌∙◌}
use Rattle.std.specs.List.{flat_map}
use Rattle.exi_order.specs.Keys.{keys_of}
use Rattle.exi_vocabulary.specs.Collected.{pair_of}
use Rattle.exi_vocabulary.specs.FirstNames.{type_names}
use Rattle.exi_vocabulary.specs.Vocabulary.{attribute_name, element_name}
use Rattle.exi_vocabulary.proofs.Rows.{all_keys_are}
use Rattle.exi_vocabulary.proofs.names.all_keys.Goals as goal

pub returns : goal.returns
returns c =
    ap keys_of (c.in_ok-append-2.ensures.items ∙ ap (λ l. l ++ c.in_ok-type_keys.field-0.items) c.in_ok-append.ensures.items)
    ∙ all_keys_are c.args.parts.now c.in_ok-keys.keys.items c.in_ok-attribute_keys.field-0.items c.in_ok-type_keys.field-0.items
    (c.in_ok-keys.ensures ∙ ap (map element_name) c.elements.ensures.elements)
    (c.in_ok-attribute_keys.ensures ∙ ap (map attribute_name) c.attributes.ensures.attributes)
    (c.in_ok-type_keys.ensures ∙ ap (λ ts. map pair_of (flat_map type_names ts)) c.types.ensures.types)
