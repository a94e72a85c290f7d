use Rattle.std.proofs.Common.{◌≡◌, ◌≤◌, take}
use Rattle.std.specs.List.{flat_map}
use Rattle.exi_evtext.specs.Lines.{escaped}
use Rattle.exi_evtext.proofs.quote.few_stand.Given as goal

abbrev pub invariant-loop-byte : goal.invariant-loop-byte
invariant-loop-byte l = (l.standing ≤ l.byte-index) × (l.standing ≡ l.byte-index → flat_map escaped (take l.byte-index l.bytes) ≡ take l.byte-index l.bytes)
