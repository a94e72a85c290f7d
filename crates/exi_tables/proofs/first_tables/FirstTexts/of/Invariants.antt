use Rattle.std.proofs.Common.{◌≡◌, [], take}
use Rattle.exi_tables.specs.Added.{IsPlaced}
use Rattle.exi_tables.proofs.first_tables.FirstTexts.of.Given as goal

abbrev pub invariant-loop-text : goal.invariant-loop-text
invariant-loop-text l = (l.copy.texts ≡ take l.text-index l.texts) × IsPlaced [] l.copy.texts l.copy.known
