use Rattle.std.proofs.Common.{◌≡◌, drop}
use Rattle.exi_pattern.specs.Escapes.{are_block_chars}
use Rattle.exi_pattern.proofs.escapes.are_block_chars.Given as goal

abbrev pub invariant-loop-c : goal.invariant-loop-c
invariant-loop-c l = are_block_chars (drop l.c-index l.fn.name) ≡ are_block_chars l.fn.name
