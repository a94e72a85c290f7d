use Rattle.std.proofs.Common.{◌≡◌, map, take}
use Rattle.std.specs.Prelude.{encode_utf8_all}
use Rattle.exi_words.proofs.lend.lent.Given as goal

abbrev pub invariant-loop-word : goal.invariant-loop-word
invariant-loop-word l = map (λ w. w.now) l.texts.items ≡ map encode_utf8_all (take l.word-index l.words)
