use Rattle.std.proofs.Common.{◌≡◌, [], map, take}
use Rattle.std.specs.Str.{chars}
use Rattle.exi_vocabulary.specs.Collected.{with_texts}
use Rattle.exi_vocabulary.proofs.texts.Texts.of.Given as goal

abbrev pub invariant-loop-text : goal.invariant-loop-text
invariant-loop-text l = l.all ≡ with_texts [] (map (λ s. chars s.now) (take l.text-index l.texts))
