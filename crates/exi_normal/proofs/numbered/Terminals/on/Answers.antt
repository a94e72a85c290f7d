use Rattle.std.proofs.Common.{◌∙◌, sym, subst}
use Rattle.std.specs.Prelude.{Some, slice_get}
use Rattle.exi_gram.specs.Terminals.{step_symbol, symbol}
use Rattle.exi_normal.specs.Steps.{AreApart, KeepsSymbols, ShowsOn, symbols}
use Rattle.exi_normal.proofs.Same.{apart_with, kept_same, kept_with, number_with}
use Rattle.exi_normal.proofs.numbered.Terminals.on.Goals as goal

pub returns-in_ok-number-in-Some-clause-apart : goal.returns-in_ok-number-in-Some-clause-apart
returns-in_ok-number-in-Some-clause-apart c = subst AreApart (sym c.in_ok-number-in-Some.ensures.symbols) (apart_with (symbol c.in-Some.terminal) (symbols c.args.self.now) c.requires.apart)

pub returns-in_ok-number-in-Some-clause-kept : goal.returns-in_ok-number-in-Some-clause-kept
returns-in_ok-number-in-Some-clause-kept c = subst (KeepsSymbols (symbols c.args.self.now)) (sym c.in_ok-number-in-Some.ensures.symbols) (kept_with (symbol c.in-Some.terminal) (symbols c.args.self.now))

pub returns-in_ok-number-in-Some-clause-shows : goal.returns-in_ok-number-in-Some-clause-shows
returns-in_ok-number-in-Some-clause-shows c =
    subst (λ o. ShowsOn (symbols c.number.new.self) (Some c.in_ok-number-in-Some.field-0) (step_symbol o)) (sym c.in-Some.is)
    ((λ i. slice_get (c.in_ok-number-in-Some.ensures.symbols i) (c.in_ok-number-in-Some.ensures.number i)) ∙ number_with (symbol c.in-Some.terminal) (symbols c.args.self.now))

pub returns-in-None-clause-kept : goal.returns-in-None-clause-kept
returns-in-None-clause-kept c = kept_same (symbols c.args.self.now)
