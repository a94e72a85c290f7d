use Rattle.std.proofs.Common.{◌≡◌, map, take}
use Rattle.exi_vocabulary.specs.Agreement.{shown, told_in, told_of}
use Rattle.exi_vocabulary.specs.Named.{name_pair}
use Rattle.exi_vocabulary.specs.declared.name.Name.{Name}
use Rattle.exi_vocabulary.proofs.agreement.tolds.Given as goal

abbrev pub invariant-loop-one : goal.invariant-loop-one
invariant-loop-one l = (name : Name) → told_in l.tolds.entries name ≡ told_of (name_pair name) (map shown (take l.one-index l.declared))
