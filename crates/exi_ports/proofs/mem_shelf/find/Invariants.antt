use Rattle.std.proofs.Common.{◌≡◌, drop}
use Rattle.exi_ports.specs.Ports.{file_at}
use Rattle.exi_ports.proofs.mem_shelf.find.Given as goal

abbrev pub invariant-loop-held : goal.invariant-loop-held
invariant-loop-held l = file_at (drop l.held-index l.files) l.name ≡ file_at l.files l.name
