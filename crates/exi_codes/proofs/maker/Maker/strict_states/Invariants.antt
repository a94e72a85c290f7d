use Rattle.std.proofs.Common.{◌≡◌, map, take}
use Rattle.exi_gram.specs.Additions.{strict_state}
use Rattle.exi_gram.specs.Books.{state_of}
use Rattle.exi_gram.specs.Terminals.{rule}
use Rattle.exi_codes.proofs.maker.Maker.strict_states.Given as goal

abbrev pub invariant-loop-state : goal.invariant-loop-state
invariant-loop-state l = l.made ≡ map (state_of l.self.options.now l.self.places.now) (map strict_state (map (map rule) (take l.state-index l.grammar.states)))
