use Rattle.std.proofs.Common.{refl}
use Rattle.xsd_file.specs.Words.{known_in}
use Rattle.exi_run.proofs.stream.schema_in.Goals as goal

pub returns-in-Ok-clause-informs : goal.returns-in-Ok-clause-informs
returns-in-Ok-clause-informs c = (known_in c.in-Ok.known, rw c.as_slice.ensures at c.in-Ok.ensures, refl)
