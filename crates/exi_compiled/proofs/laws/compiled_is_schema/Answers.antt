use Rattle.exi_compiled.proofs.Outlined.{compiled_is}
use Rattle.exi_compiled.proofs.laws.compiled_is_schema.Goals as goal

pub returns : goal.returns
returns c = compiled_is
