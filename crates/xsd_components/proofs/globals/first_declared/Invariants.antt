use Rattle.std.proofs.Common.{◌≡◌, drop}
use Rattle.xsd_components.specs.Globals.{first_declared}
use Rattle.xsd_components.proofs.globals.first_declared.Given as goal

abbrev pub invariant-loop-global : goal.invariant-loop-global
invariant-loop-global l = first_declared l.fn.nodes l.fn.kind l.fn.name (drop l.global-index l.fn.globals) ≡ first_declared l.fn.nodes l.fn.kind l.fn.name l.fn.globals
