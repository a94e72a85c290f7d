use Rattle.std.proofs.Common.{◌≡◌, take}
use Rattle.exi_tables.specs.Values.{least_under}
use Rattle.exi_tables.proofs.live.least_under.Given as goal

abbrev pub invariant-loop-value : goal.invariant-loop-value
invariant-loop-value l = l.least ≡ least_under l.fn.name l.text (take l.value-index l.live)
