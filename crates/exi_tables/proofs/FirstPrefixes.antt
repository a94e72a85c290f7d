-- The texts of the first prefixes.
use Rattle.std.proofs.Common.{◌≡◌, refl}
use Rattle.std.specs.Prelude.{codes}
use Rattle.std.specs.Str.{chars}

pub xml_is : chars (codes "xml") ≡ codes "xml"
unfolding chars
xml_is = refl

pub xsi_is : chars (codes "xsi") ≡ codes "xsi"
unfolding chars
xsi_is = refl
