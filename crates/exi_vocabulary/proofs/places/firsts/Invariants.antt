use Rattle.std.proofs.Common.{◌≡◌, [], drop, map}
use Rattle.exi_order.specs.Keys.{keys_of}
use Rattle.exi_vocabulary.specs.Named.{name_pair}
use Rattle.exi_vocabulary.specs.Vocabulary.{firsts_from}
use Rattle.exi_vocabulary.proofs.Firsts.{goes_on}
use Rattle.exi_vocabulary.proofs.places.firsts.Given as goal

abbrev pub invariant-loop-place : goal.invariant-loop-place
invariant-loop-place l = goes_on l.firsts.items (map name_pair l.names.keys) l.place (drop l.place (keys_of l.keys)) ≡ firsts_from [] 0 (keys_of l.keys)
