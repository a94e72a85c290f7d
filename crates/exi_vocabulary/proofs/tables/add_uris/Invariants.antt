use Rattle.std.proofs.Common.{◌≡◌, map, take}
use Rattle.exi_order.specs.Keys.{keys_of}
use Rattle.exi_vocabulary.specs.Collected.{with_texts}
use Rattle.exi_vocabulary.specs.Vocabulary.{Pair}
use Rattle.exi_vocabulary.proofs.tables.add_uris.Given as goal

abbrev pub invariant-loop-name : goal.invariant-loop-name
invariant-loop-name l = l.uris ≡ with_texts l.fn.uris (map (λ (k : Pair). k.1) (keys_of (take l.name-index l.names)))
