use Rattle.std.proofs.Common.{◌≡◌, IsUtf8, chars}
use Rattle.std.specs.Str.Iter.{chars_rest}
use Rattle.exi_names.specs.Alphabets.{rises_from, is_alphabet}
use Rattle.exi_names.proofs.alphabet.rises.Given as goal

abbrev pub invariant-loop-c : goal.invariant-loop-c
invariant-loop-c l =
    IsUtf8 (chars_rest l.c-iterator)
    × (rises_from l.least (chars (chars_rest l.c-iterator)) ≡ is_alphabet (chars l.fn.text))
