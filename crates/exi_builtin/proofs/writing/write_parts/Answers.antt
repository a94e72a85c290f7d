use Rattle.std.proofs.Common.{◌≡◌, Bool, List, [], refl, sym, ◌∙◌}
use Rattle.std.proofs.lemmas.List.{append-nil}
use Rattle.exi_items.specs.Fronts.{HoldsFront}
use Rattle.exi_items.proofs.Pieces.{on_err, then_front}
use Rattle.exi_builtin.proofs.writing.write_parts.Goals as goal

none_yet : (old text new : List Bool) → new ≡ old → HoldsFront old text new
none_yet old text new e = record { front = []; behind = text; parts = refl; held = e ∙ sym (append-nil old) }

pub returns-in_ok-write_part-in-Three-2-clause-err : goal.returns-in_ok-write_part-in-Three-2-clause-err
returns-in_ok-write_part-in-Three-2-clause-err c =
    rw c.in-Three.is
    (on_err c.write_part-in-Three-3.result _ _
    (λ e. then_front _ _ _ _ _ c.in_ok-write_part-in-Three.ensures.ok (then_front _ _ _ _ _ c.in_ok-write_part-in-Three-2.ensures.ok (none_yet _ _ _ e)))
    c.write_part-in-Three-3.ensures.err)
