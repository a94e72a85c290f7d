use Rattle.std.proofs.Common.{◌≡◌, get_or, map, take}
use Rattle.exi_inherited.specs.declared.uses.Use.{Use}
use Rattle.exi_inherited.proofs.uses.picked.Given as goal

abbrev pub invariant-loop-place : goal.invariant-loop-place
invariant-loop-place l = (given : Use) → l.picked ≡ map (λ place. get_or l.fn.uses place given) (take l.place-index l.fn.places)
