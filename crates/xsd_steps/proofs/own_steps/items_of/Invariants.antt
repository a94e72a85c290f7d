use Rattle.std.proofs.Common.{◌≡◌, take}
use Rattle.xsd_steps.proofs.own_steps.items_of.Given as goal

abbrev pub invariant-loop-place : goal.invariant-loop-place
invariant-loop-place l = l.items ≡ take l.place-index l.fn.places
