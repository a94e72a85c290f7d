use Rattle.std.proofs.Common.{◌≡◌, take}
use Rattle.std.specs.List.{flat_map}
use Rattle.exi_vocabulary.specs.Collected.{with_texts}
use Rattle.exi_vocabulary.specs.FirstNames.{type_uris}
use Rattle.exi_vocabulary.proofs.tables.add_types.Given as goal

abbrev pub invariant-loop-of : goal.invariant-loop-of
invariant-loop-of l = l.uris ≡ with_texts l.fn.uris (flat_map type_uris (take l.of-index l.types))
