use Rattle.std.proofs.Common.{◌≤◌, List, ℕ, length, sym, subst}
use Rattle.exi_digits.specs.Splits.{is_mark}
use Rattle.exi_evtext.proofs.Cursors.{before_within}
use Rattle.exi_evtext.proofs.cursor.Cursor.count.Goals as goal

pub split_at-requires : goal.split_at-requires
split_at-requires c =
    subst (λ (x : List ℕ). length x ≤ length c.self.inside.left.now) (sym c.split_at_mark.ensures.before) (before_within (is_mark 32) c.self.inside.left.now)
