use Rattle.std.proofs.Common.{◌≡◌, map, take}
use Rattle.exi_vocabulary.specs.Agreement.{agree_or, shown, told_of, Decl}
use Rattle.exi_vocabulary.proofs.agreement.agreeing.Given as goal

abbrev pub invariant-loop-one : goal.invariant-loop-one
invariant-loop-one l = l.agree ≡ map (λ (d : Decl). agree_or (told_of d.name (map shown l.declared))) (map shown (take l.one-index l.declared))
