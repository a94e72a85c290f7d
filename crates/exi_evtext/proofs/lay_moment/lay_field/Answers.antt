use Rattle.std.proofs.Common.{◌+◌, ◌/◌, ◌%◌, ◌++◌, ◌∷◌, [], ℕ, List, take, sym, ap, ◌∙◌, append_assoc}
use Rattle.exi_digits.proofs.Pushing.{padded_two}
use Rattle.exi_evtext.proofs.lay_moment.lay_field.Goals as goal

pub returns-clause-laid : goal.returns-clause-laid
returns-clause-laid c =
    let front = take c.args.at c.args.room.now in
    let mark = c.args.mark in
    let high = 48 + c.args.field / 10 in
    let low = 48 + c.args.field % 10 in
    c.lay_byte.ensures.laid
    ∙ ap (λ (x : List ℕ). x ++ low ∷ []) (c.lay_byte-at-2.ensures.laid ∙ ap (λ (x : List ℕ). x ++ high ∷ []) c.lay_byte-at.ensures.laid)
    ∙ append_assoc (front ++ mark ∷ []) (high ∷ []) (low ∷ [])
    ∙ append_assoc front (mark ∷ []) (high ∷ low ∷ [])
    ∙ ap (λ (x : List ℕ). front ++ mark ∷ x) (sym (padded_two c.args.field c.if-field-ge100.false))
