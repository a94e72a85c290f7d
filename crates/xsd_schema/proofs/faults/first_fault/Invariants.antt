use Rattle.std.proofs.Common.{◌≡◌}
use Rattle.xsd_schema.proofs.First.{first_behind}
use Rattle.xsd_schema.specs.Shown.{first_from}
use Rattle.xsd_schema.specs.Shows.{shows_at}
use Rattle.xsd_schema.proofs.faults.first_fault.Given as goal

abbrev pub invariant-loop-place : goal.invariant-loop-place
invariant-loop-place l = first_behind (shows_at l.fn.joined l.fn.simples.nodes) l.fn.simples.nodes l.place ≡ first_from (shows_at l.fn.joined l.fn.simples.nodes) 0 l.fn.simples.nodes
