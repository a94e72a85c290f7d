use Rattle.std.proofs.Common.{◌≡◌, ℕ, List, take}
use Rattle.exi_order.specs.Keys.{keys_of}
use Rattle.exi_vocabulary.specs.Collected.{row_of, with_names}
use Rattle.exi_vocabulary.specs.FirstNames.{known_locals}
use Rattle.exi_vocabulary.proofs.tables.rows.Given as goal

abbrev pub invariant-loop-name : goal.invariant-loop-name
invariant-loop-name l = (uri : List ℕ) → row_of l.rows.entries uri ≡ with_names uri (known_locals uri) (keys_of (take l.name-index l.names))
