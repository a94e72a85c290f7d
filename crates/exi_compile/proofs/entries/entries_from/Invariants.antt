use Rattle.std.proofs.Common.{◌≡◌, flat_map, take}
use Rattle.exi_compile.specs.Entries.{entries_at}
use Rattle.exi_compile.proofs.entries.entries_from.Given as goal

abbrev pub invariant-loop-place : goal.invariant-loop-place
invariant-loop-place l = l.entries ≡ flat_map (entries_at l.elements l.grammars) (take l.place-index l.places)
