use Rattle.std.proofs.Common.{Some, sym, ap, ◌∙◌}
use Rattle.std.specs.Option.{option_map}
use Rattle.exi_processing.specs.Rules.{Rule, built_in_terminal}
use Rattle.exi_choice.proofs.BuiltIns.{chosen_special, lacks_any, lacks_this}
use Rattle.exi_choice.proofs.choice.choose_special.Goals as goal

pub returns-clause-choice : goal.returns-clause-choice
returns-clause-choice c = chosen_special c.args.book.now c.args.overlay.now c.args.room c.args.wanted c.in_ok-production.production c.code_of.result c.in_ok-code.code c.coded_as.result c.learned.ensures.only c.requires.room (sym c.special.ensures ∙ c.in_ok-production.was) (rw c.options-options.ensures.options at c.code_of.ensures) c.in_ok-code.was c.coded_as.ensures.rule c.coded_as.ensures.way

pub returns-clause-on : goal.returns-clause-on
returns-clause-on c = ap (λ (r : Rule). Some r.on) c.coded_as.ensures.rule ∙ ap (option_map built_in_terminal) (sym c.in_ok-production.was ∙ c.special.ensures)

pub returns-in_err-production-clause-none : goal.returns-in_err-production-clause-none
returns-in_err-production-clause-none c = rw c.from_residual.ensures (lacks_any c.args.book.now.options c.args.overlay.now c.args.room c.args.wanted (sym c.special.ensures ∙ c.in_err-production.was))

pub returns-in_err-code-clause-none : goal.returns-in_err-code-clause-none
returns-in_err-code-clause-none c = rw c.from_residual-in_err-code.ensures (lacks_this c.args.book.now.options c.args.overlay.now c.args.room c.args.wanted c.in_ok-production.production c.code_of.result (sym c.special.ensures ∙ c.in_ok-production.was) (rw c.options-options.ensures.options at c.code_of.ensures) c.in_err-code.was)
