use Rattle.std.proofs.Common.{◌≡◌, ℕ, Bool, List, [], ◌++◌, refl, sym, ap, ◌∙◌}
use Rattle.std.proofs.lemmas.List.{append-nil}
use Rattle.exi_bits.specs.Bits.{number}
use Rattle.exi_bits.specs.Widths.{width_for}
use Rattle.exi_items.specs.Fronts.{HoldsFront}
use Rattle.exi_items.proofs.Pieces.{on_err, then_front}
use Rattle.exi_gram.proofs.write.write_kept.Goals as goal

none_yet : (old text new : List Bool) → new ≡ old → HoldsFront old text new
none_yet old text new e = record { front = []; behind = text; parts = refl; held = e ∙ sym (append-nil old) }

pub returns-in_ok-write_part-in-Three-2-clause-err : goal.returns-in_ok-write_part-in-Three-2-clause-err
returns-in_ok-write_part-in-Three-2-clause-err c =
    rw c.in-Three.is
    (on_err c.write_part-in-Three-3.result _ _
    (λ e. then_front _ _ _ _ _ (c.in_ok-write_part-in-Three.ensures.ok ∙ ap (λ (n : ℕ). c.args.out.now ++ number (width_for n) c.args.align c.in-Three.first) c.values_of_first-values.ensures)
    (then_front _ _ _ _ _ (c.in_ok-write_part-in-Three-2.ensures.ok) (none_yet _ _ _ e)))
    c.write_part-in-Three-3.ensures.err)
