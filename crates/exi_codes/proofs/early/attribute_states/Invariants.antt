use Rattle.std.proofs.Common.{◌-◌, suc, reverse}
use Rattle.exi_gram.specs.Additions.{rule_count}
use Rattle.exi_gram.specs.Terminals.{rules_of}
use Rattle.exi_codes.proofs.Reaching.{Walk}
use Rattle.exi_codes.proofs.early.attribute_states.Given as goal

abbrev pub invariant-loop : goal.invariant-loop
invariant-loop l = Walk (rules_of l.grammar) (suc (rule_count (rules_of l.grammar).states) - l.counter) l.marks.items (reverse l.stack.items)
