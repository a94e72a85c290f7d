use Rattle.std.proofs.Common.{◌≡◌, map, take}
use Rattle.exi_gram.specs.Additions.{attribute_states, loose_from}
use Rattle.exi_gram.specs.Books.{state_of}
use Rattle.exi_gram.specs.Terminals.{rule, rules_of}
use Rattle.exi_codes.proofs.maker.Maker.loose_states.Given as goal

abbrev pub invariant-loop-place : goal.invariant-loop-place
invariant-loop-place l = l.made ≡ map (state_of l.self.options.now l.self.places.now) (loose_from (rules_of l.grammar) (attribute_states (rules_of l.grammar)) 0 (map (map rule) (take l.place l.grammar.states)))
