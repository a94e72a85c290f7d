-- What is read, from what the steps of the reading give.
use Rattle.std.proofs.Common.{◌≡◌, Option, Some, None, Ok, Err, List, sym, ap, ◌∙◌}
use Rattle.xsd_schema.specs.Shown.{first_from, simple_shows}
use Rattle.xsd_model.specs.declared.fault.SchemaFault.{SchemaFault}
use Rattle.xsd_tree.specs.declared.node.Node.{Node}
use Rattle.xsd_schema.specs.Seen.{TypeSeen}
use Rattle.xsd_schema.specs.Types.{or_fault, simple_types, types_of}

abbrev pub first_of : List Node → Option SchemaFault
first_of ns = first_from (simple_shows ns) 0 ns

pub types_fault : (ms ns : List Node) (o : Option SchemaFault) (f : SchemaFault) → ms ≡ ns → o ≡ first_of ms → o ≡ Some f → types_of ns ≡ Err f
unfolding types_of
types_fault ms ns o f same first found = ap (λ (x : Option SchemaFault). or_fault x (simple_types ns)) (sym (ap first_of same) ∙ sym first ∙ found)

pub types_read : (ms ns : List Node) (o : Option SchemaFault) (types : List TypeSeen) → ms ≡ ns → o ≡ first_of ms → o ≡ None → types ≡ simple_types ms → types_of ns ≡ Ok types
unfolding types_of
types_read ms ns o types same first none types_are =
    ap (λ (x : Option SchemaFault). or_fault x (simple_types ns)) (sym (ap first_of same) ∙ sym first ∙ none)
    ∙ ap Ok (sym (ap simple_types same) ∙ sym types_are)
