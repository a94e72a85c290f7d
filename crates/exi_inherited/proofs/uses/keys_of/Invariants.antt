use Rattle.std.proofs.Common.{◌≡◌, map, take}
use Rattle.exi_order.specs.Keys.{keys_of}
use Rattle.exi_inherited.specs.Told.{use_pair}
use Rattle.exi_inherited.proofs.uses.keys_of.Given as goal

abbrev pub invariant-loop-used : goal.invariant-loop-used
invariant-loop-used l = keys_of l.keys.items ≡ map (use_pair l.fn.parts) (take l.used-index l.fn.uses)
