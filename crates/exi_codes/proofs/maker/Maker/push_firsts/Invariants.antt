use Rattle.std.proofs.Common.{◌≡◌, map, take}
use Rattle.exi_gram.specs.Terminals.{rule}
use Rattle.exi_codes.specs.Made.{with_rules}
use Rattle.exi_codes.proofs.maker.Maker.push_firsts.Given as goal

abbrev pub invariant-loop-production : goal.invariant-loop-production
invariant-loop-production l = l.state ≡ with_rules l.self.options.now l.self.places.now l.fn.state (map (λ p. rule p.now) (take l.production-index l.productions))
