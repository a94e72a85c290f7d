use Rattle.std.proofs.Common.{Some, sym, ap, ◌∙◌}
use Rattle.exi_names.specs.Seen.{Value, seen}
use Rattle.exi_names.specs.declared.val.Val.{Val}
use Rattle.exi_choice.proofs.Strings.{has_spelling, no_spelling, text_seen}
use Rattle.exi_choice.proofs.fit.fit_text.Goals as goal

pub returns-then-not-can_be_spelled : goal.returns-then-not-can_be_spelled
returns-then-not-can_be_spelled c = no_spelling (seen c.args.value.now) c.in-Some.text (sym c.in-Some.is ∙ c.in_ok-text.ensures) (sym c.can_be_spelled.ensures ∙ c.if-not-can_be_spelled.true)

pub returns : goal.returns
returns c = ap (λ (v : Val). Some (seen v)) c.in_ok-new.ensures.ok ∙ ap (λ (v : Value). Some v) (text_seen c.in-Some.text) ∙ has_spelling (seen c.args.value.now) c.in-Some.text (sym c.in-Some.is ∙ c.in_ok-text.ensures) (sym c.can_be_spelled.ensures ∙ c.if-not-can_be_spelled.false)
