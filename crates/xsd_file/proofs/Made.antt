-- A book, by its parts.
use Rattle.std.proofs.Common.{◌≡◌, Result, Ok, Err, ap, ◌∙◌}
use Rattle.std.specs.Prelude.{IfOk}
use Rattle.exi_gram.specs.Books.{Contents, book_states}
use Rattle.exi_gram.specs.Outlines.{Outline}
use Rattle.exi_gram.specs.declared.options.Options.{Options}
use Rattle.exi_opening.specs.Openings.{setting_by}

pub made_by : {E : Type 0} (r : Result Contents E) (s t : Outline) (o : Options) → IfOk r (λ b. b.options ≡ o) → IfOk r (λ b. b.schema ≡ s) → IfOk r (λ b. b.states ≡ book_states o s) → s ≡ t → IfOk r (λ b. b ≡ setting_by t o)
made_by {E} (Err e) s t o p q w is = tt
made_by {E} (Ok b) s t o p q w is =
    let schema : b.schema ≡ t = q ∙ is in
    let states : b.states ≡ book_states o t = w ∙ ap (book_states o) is in
    λ i. record { options = p i; schema = schema i; states = states i }
