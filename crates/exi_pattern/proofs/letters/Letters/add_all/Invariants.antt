use Rattle.std.proofs.Common.{◌≡◌, IsUtf8, chars}
use Rattle.std.specs.Str.Iter.{chars_rest}
use Rattle.exi_pattern.specs.Joins.{with_all}
use Rattle.exi_pattern.proofs.letters.Letters.add_all.Given as goal

abbrev pub invariant-loop-c : goal.invariant-loop-c
invariant-loop-c l =
    IsUtf8 (chars_rest l.c-iterator)
    × (with_all (chars (chars_rest l.c-iterator)) l.self ≡ with_all (chars l.fn.text) l.fn.self)
