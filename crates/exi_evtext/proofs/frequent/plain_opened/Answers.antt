use Rattle.std.proofs.Common.{◌≡◌, List, ℕ, ◌++◌, ◌∷◌, sym, ap, subst, take, ◌∙◌}
use Rattle.std.proofs.lemmas.List.{take-append-drop}
use Rattle.exi_evtext.specs.Plain.{IsPlain}
use Rattle.exi_evtext.proofs.Cursors.{past_mark}
use Rattle.exi_evtext.proofs.Straight.{plain_front}
use Rattle.exi_evtext.proofs.frequent.plain_opened.Goals as goal

pub returns-clause-plain : goal.returns-clause-plain
returns-clause-plain c = subst IsPlain (sym c.new.ensures) (plain_front c.args.bytes.now c.plain_width-count.result c.plain_width-count.ensures.within c.plain_width-count.ensures.plain)

pub returns-clause-parts : goal.returns-clause-parts
returns-clause-parts c =
    let front = take c.plain_width-count.result c.args.bytes.now in
    let rest = c.split_at.result.1.now in
    let whole : c.args.bytes.now ≡ front ++ rest = sym (take-append-drop c.plain_width-count.result c.args.bytes.now) ∙ ap (λ (x : List ℕ). front ++ x) (sym c.split_at.ensures.back) in
    whole ∙ ap (λ (x : List ℕ). front ++ x) (past_mark 34 rest c.in_ok-behind.behind.now (sym c.in_ok-behind.ensures)) ∙ ap (λ (x : List ℕ). x ++ 34 ∷ c.in_ok-behind.behind.now) (sym c.new.ensures)
