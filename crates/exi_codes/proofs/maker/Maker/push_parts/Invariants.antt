use Rattle.std.proofs.Common.{◌≡◌, ◌++◌, map, take}
use Rattle.exi_gram.specs.Additions.{part_states}
use Rattle.exi_gram.specs.Books.{state_of}
use Rattle.exi_gram.specs.Switches.{strict}
use Rattle.exi_gram.specs.Terminals.{rules_of}
use Rattle.exi_codes.proofs.maker.Maker.push_parts.Given as goal

abbrev pub invariant-loop-grammar : goal.invariant-loop-grammar
invariant-loop-grammar l = l.states ≡ l.fn.states ++ map (map (state_of l.self.options.now l.self.places.now)) (map (part_states (strict l.self.options.now)) (map rules_of (take l.grammar-index l.grammars)))
