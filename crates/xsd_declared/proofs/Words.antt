-- A word of text as its characters.
use Rattle.std.proofs.Common.{◌≡◌, codes, refl}
use Rattle.std.specs.Str.{chars}

pub qualified_chars : chars (codes "qualified") ≡ codes "qualified"
unfolding chars
qualified_chars = refl
