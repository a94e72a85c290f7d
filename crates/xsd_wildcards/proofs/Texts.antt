-- Words of text as their characters.
use Rattle.std.proofs.Common.{◌≡◌, codes, refl}
use Rattle.std.specs.Str.{chars}

pub target_chars : chars (codes "##targetNamespace") ≡ codes "##targetNamespace"
unfolding chars
target_chars = refl

pub local_chars : chars (codes "##local") ≡ codes "##local"
unfolding chars
local_chars = refl

pub any_chars : chars (codes "##any") ≡ codes "##any"
unfolding chars
any_chars = refl

pub other_chars : chars (codes "##other") ≡ codes "##other"
unfolding chars
other_chars = refl
