use Rattle.std.proofs.Common.{◌≡◌}
use Rattle.xsd_schema.proofs.First.{first_behind}
use Rattle.xsd_schema.specs.Shown.{first_from, simple_shows}
use Rattle.xsd_schema.proofs.read.first_fault.Given as goal

abbrev pub invariant-loop-place : goal.invariant-loop-place
invariant-loop-place l = first_behind (simple_shows l.fn.simples.nodes) l.fn.simples.nodes l.place ≡ first_from (simple_shows l.fn.simples.nodes) 0 l.fn.simples.nodes
