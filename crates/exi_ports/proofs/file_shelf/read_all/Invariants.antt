use Rattle.std.proofs.Common.{◌+◌, ◌-◌, length}
use Rattle.std.specs.Io.KnownBytes.{Consumes}
use Rattle.exi_ports.proofs.file_shelf.read_all.Given as goal

abbrev pub invariant-loop-all : goal.invariant-loop-all
invariant-loop-all g l = Consumes (g.S.Read.remaining l.fn.source) (g.S.Read.remaining l.source) l.all.items

abbrev pub decreases-loop-all : goal.decreases-loop-all
decreases-loop-all g l = l.most + 1 - length l.all.items
