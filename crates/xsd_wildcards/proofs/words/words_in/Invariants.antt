use Rattle.std.proofs.Common.{◌≡◌, drop}
use Rattle.exi_lexical.specs.Spaces.{words}
use Rattle.xsd_wildcards.proofs.Spoken.{words_behind}
use Rattle.xsd_wildcards.proofs.words.words_in.Given as goal

abbrev pub invariant-loop-c : goal.invariant-loop-c
invariant-loop-c l = words_behind l.words l.word (drop l.c-index l.fn.letters) ≡ words l.fn.letters
