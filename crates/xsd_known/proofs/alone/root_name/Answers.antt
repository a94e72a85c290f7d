use Rattle.std.proofs.Common.{refl}
use Rattle.std.specs.Str.{chars}
use Rattle.xsd_known.proofs.alone.root_name.Goals as goal

pub returns : goal.returns
unfolding chars
returns c = rw (c.in_ok-of.ensures, c.in_ok-of-2.ensures) refl
