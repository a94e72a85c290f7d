use Rattle.std.proofs.Common.{refl}
use Rattle.std.specs.Str.{chars}
use Rattle.xsd_builtins.specs.BuiltIns.{built_in_names}
use Rattle.xsd_builtins.proofs.types.names.Goals as goal

pub returns-clause-names : goal.returns-clause-names
unfolding chars built_in_names
returns-clause-names c = refl
