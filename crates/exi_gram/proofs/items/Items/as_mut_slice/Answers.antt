use Rattle.std.proofs.Common.{◌≡◌, ℕ, List, ◌++◌, length, take, drop, refl, sym, ap, ◌∙◌}
use Rattle.exi_gram.proofs.items.Items.as_mut_slice.Goals as goal

pub returns : goal.returns
returns g c =
    let n : c.self.inside.items.len ≡ length c.args.self.now = sym c.as_mut_slice.ensures.len ∙ ap length (c.as_mut_slice.ensures.value ∙ c.self.view_is) in (
      (refl, λ w. ap (λ (n : ℕ). take n (w ++ drop (length w) c.self.inside.items.items)) n ∙ ap (λ (z : List g.row.T.Denot). take (length c.args.self.now) (w ++ drop (length w) z)) c.self.view_is),
      record { writes_back = tt; value = c.as_mut_slice.ensures.value ∙ c.self.view_is },
    )
