use Rattle.std.proofs.Common.{◌≡◌, map, take}
use Rattle.std.specs.List.{flat_map}
use Rattle.exi_order.specs.Keys.{keys_of}
use Rattle.exi_vocabulary.specs.Collected.{pair_of}
use Rattle.exi_vocabulary.specs.FirstNames.{type_names}
use Rattle.exi_vocabulary.proofs.names.type_keys.Given as goal

abbrev pub invariant-loop-of : goal.invariant-loop-of
invariant-loop-of l = keys_of l.keys.items ≡ map pair_of (flat_map type_names (take l.of-index l.types))
