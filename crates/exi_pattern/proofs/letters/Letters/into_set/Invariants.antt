use Rattle.std.proofs.Common.{◌≡◌, take}
use Rattle.exi_pattern.proofs.letters.Letters.into_set.Given as goal

abbrev pub invariant-loop-c : goal.invariant-loop-c
invariant-loop-c l = l.text ≡ take l.c-index l.c-items
