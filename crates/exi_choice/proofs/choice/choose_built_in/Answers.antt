use Rattle.std.proofs.Common.{sym, ◌∙◌}
use Rattle.exi_builtin.specs.Learning.{productions}
use Rattle.exi_choice.specs.Wanted.{general, special}
use Rattle.exi_choice.proofs.BuiltIns.{chosen_general, chosen_none, lacking, no_special, no_this}
use Rattle.exi_choice.proofs.choice.choose_built_in.Goals as goal

pub returns-in_err-production : goal.returns-in_err-production
returns-in_err-production c =
    let state = productions c.args.book.now.options c.args.overlay.now c.args.room in
    rw c.from_residual.ensures (chosen_none c.args.book.now c.args.overlay.now c.args.room c.args.wanted c.learned.ensures.only
    (lacking state (special c.args.wanted) (rw c.in_default.is at c.choose_special.ensures.none))
    (no_special state (general c.args.wanted) (sym c.general.ensures ∙ c.in_err-production.was)))

pub returns-in_err-code : goal.returns-in_err-code
returns-in_err-code c =
    let state = productions c.args.book.now.options c.args.overlay.now c.args.room in
    rw c.from_residual-in_err-code.ensures (chosen_none c.args.book.now c.args.overlay.now c.args.room c.args.wanted c.learned.ensures.only
    (lacking state (special c.args.wanted) (rw c.in_default.is at c.choose_special.ensures.none))
    (no_this state (general c.args.wanted) c.in_ok-production.production c.code_of.result (sym c.general.ensures ∙ c.in_ok-production.was) (rw c.options-options.ensures.options at c.code_of.ensures) c.in_err-code.was))

pub returns : goal.returns
returns c =
    let state = productions c.args.book.now.options c.args.overlay.now c.args.room in
    chosen_general c.args.book.now c.args.overlay.now c.args.room c.args.wanted c.in_ok-production.production c.code_of.result c.in_ok-code.code c.coded_as.result c.learned.ensures.only c.requires.room
    (lacking state (special c.args.wanted) (rw c.in_default.is at c.choose_special.ensures.none))
    (sym c.general.ensures ∙ c.in_ok-production.was) (rw c.options-options.ensures.options at c.code_of.ensures) c.in_ok-code.was c.coded_as.ensures.rule c.coded_as.ensures.way
