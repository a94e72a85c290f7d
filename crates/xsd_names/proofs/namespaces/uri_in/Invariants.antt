use Rattle.std.proofs.Common.{◌≡◌, drop}
use Rattle.xsd_names.specs.Names.{uri_in}
use Rattle.xsd_names.proofs.namespaces.uri_in.Given as goal

abbrev pub invariant-loop-declared : goal.invariant-loop-declared
invariant-loop-declared l = uri_in l.fn.prefix (drop l.declared-index l.fn.scope) ≡ uri_in l.fn.prefix l.fn.scope
