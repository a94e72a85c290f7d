use Rattle.std.proofs.Common.{◌≡◌, map, take}
use Rattle.exi_gram.specs.Terminals.{rule}
use Rattle.exi_gram.specs.Wholes.{listed}
use Rattle.exi_schema.proofs.document_grammar.Given as goal

abbrev pub invariant-loop-state : goal.invariant-loop-state
invariant-loop-state l = map (map rule) l.states ≡ map (λ p. map (λ e. e.rule) (listed p)) (take l.state-index l.state-items)
