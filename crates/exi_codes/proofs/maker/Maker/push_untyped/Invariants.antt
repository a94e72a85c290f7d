use Rattle.std.proofs.Common.{map, take}
use Rattle.std.specs.List.{flat_map}
use Rattle.exi_gram.specs.Additions.{untyped_of}
use Rattle.exi_gram.specs.Terminals.{rule}
use Rattle.exi_codes.proofs.Making.{Grouping}
use Rattle.exi_codes.proofs.maker.Maker.push_untyped.Given as goal

abbrev pub invariant-loop-production : goal.invariant-loop-production
invariant-loop-production l = Grouping l.self.options.now l.self.places.now l.fn.state (flat_map untyped_of (map (λ p. rule p.now) (take l.production-index l.firsts))) l.any l.state
