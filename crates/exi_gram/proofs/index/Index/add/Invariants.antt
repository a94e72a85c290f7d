use Rattle.std.proofs.Common.{◌≡◌, take}
use Rattle.exi_gram.proofs.index.Index.add.Given as goal

abbrev pub invariant-loop-place : goal.invariant-loop-place
invariant-loop-place l = l.places ≡ take l.place-index l.place-items
