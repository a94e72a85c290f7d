use Rattle.std.proofs.Common.{◌≡◌, take}
use Rattle.exi_vocabulary.specs.Collected.{with_texts}
use Rattle.exi_vocabulary.proofs.texts.Texts.add_all.Given as goal

abbrev pub invariant-loop-text : goal.invariant-loop-text
invariant-loop-text l = l.self ≡ with_texts l.fn.self (take l.text-index l.texts)
