use Rattle.std.proofs.Common.{◌≡◌, map, take}
use Rattle.exi_gram.specs.Wholes.{opening}
use Rattle.exi_codes.specs.Made.{with_rules}
use Rattle.exi_codes.proofs.maker.Maker.push_declared.Given as goal

abbrev pub invariant-loop-name : goal.invariant-loop-name
invariant-loop-name l = l.state ≡ with_rules l.self.options.now l.self.places.now l.fn.state (map (opening 1) (take l.name-index l.declared))
