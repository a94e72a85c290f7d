use Rattle.std.proofs.Common.{◌≡◌, map, take}
use Rattle.exi_gram.specs.Wholes.{opening}
use Rattle.exi_codes.specs.Made.{with_rules}
use Rattle.exi_codes.proofs.maker.Maker.push_globals.Given as goal

abbrev pub invariant-loop-global : goal.invariant-loop-global
invariant-loop-global l = l.state ≡ with_rules l.self.options.now l.self.places.now l.fn.state (map (opening 2) (map (λ e. (e.name, e.full)) (take l.global-index l.globals)))
