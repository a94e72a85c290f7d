use Rattle.std.proofs.Common.{List, ℕ, [], ◌∷◌, Option, sym, ap, ◌∙◌}
use Rattle.std.specs.Option.{option_copied}
use Rattle.exi_calendar.specs.Reading.{◌>>=◌, past}
use Rattle.exi_evtext.proofs.Cursors.{past_both}
use Rattle.exi_evtext.proofs.cursor.behind_quote.Goals as goal

pub returns-in_err-behind_mark : goal.returns-in_err-behind_mark
returns-in_err-behind_mark c =
    ap option_copied c.from_residual.ensures ∙ sym (past_both 32 34 c.args.bytes.now ∙ ap (λ (o : Option (List ℕ)). o >>= past (34 ∷ [])) (sym c.behind_mark.ensures ∙ ap option_copied c.in_err-behind_mark.was))

pub returns : goal.returns
returns c =
    c.behind_mark-2.ensures ∙ sym (past_both 32 34 c.args.bytes.now ∙ ap (λ (o : Option (List ℕ)). o >>= past (34 ∷ [])) (sym c.behind_mark.ensures ∙ ap option_copied c.in_ok-behind_mark.was))
