-- Words of text as their characters.
use Rattle.std.proofs.Common.{◌≡◌, codes, refl}
use Rattle.std.specs.Str.{chars}

pub unbounded_chars : chars (codes "unbounded") ≡ codes "unbounded"
unfolding chars
unbounded_chars = refl
