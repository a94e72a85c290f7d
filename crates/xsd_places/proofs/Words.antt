-- Words of text as their characters.
use Rattle.std.proofs.Common.{◌≡◌, codes, refl}
use Rattle.std.specs.Str.{chars}

pub prohibited_chars : chars (codes "prohibited") ≡ codes "prohibited"
unfolding chars
prohibited_chars = refl

pub required_chars : chars (codes "required") ≡ codes "required"
unfolding chars
required_chars = refl
