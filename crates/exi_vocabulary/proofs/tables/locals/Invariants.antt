use Rattle.std.proofs.Common.{◌≡◌, length, map, take}
use Rattle.exi_order.specs.Keys.{keys_of}
use Rattle.exi_vocabulary.specs.Collected.{in_order_behind, with_names}
use Rattle.exi_vocabulary.specs.FirstNames.{known_locals}
use Rattle.exi_vocabulary.proofs.tables.locals.Given as goal

abbrev pub invariant-loop-uri : goal.invariant-loop-uri
invariant-loop-uri l = l.locals ≡ map (λ uri. in_order_behind (length (known_locals uri)) (with_names uri (known_locals uri) (keys_of l.names))) (take l.uri-index l.uris)
