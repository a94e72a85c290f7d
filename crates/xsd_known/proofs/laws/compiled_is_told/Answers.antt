use Rattle.std.proofs.Common.{sym}
use Rattle.xsd_known.proofs.ToldCompiled.{same_compiled}
use Rattle.xsd_known.proofs.laws.compiled_is_told.Goals as goal

pub returns : goal.returns
returns c p h = sym (same_compiled p)
