use Rattle.std.proofs.Common.{◌≡◌, drop, map}
use Rattle.exi_gram.specs.Additions.{has_class}
use Rattle.exi_gram.specs.declared.class.Class.TheVariants as class
use Rattle.exi_gram.specs.Terminals.{rule}
use Rattle.exi_codes.proofs.maker.has_end.Given as goal

abbrev pub invariant-loop-production : goal.invariant-loop-production
invariant-loop-production l = has_class class.Ee (map (λ p. rule p.now) (drop l.production-index l.firsts)) ≡ has_class class.Ee (map (λ p. rule p.now) l.firsts)
