use Rattle.std.proofs.Common.{◌≤◌, ◌/◌, length, arith, rules}
use Rattle.exi_ports.proofs.mem_sink.MemSinkSink.put.Goals as goal

pub returns-then-contains-clause-part : goal.returns-then-contains-clause-part
returns-then-contains-clause-part c _ = let half : length c.args.piece.now / 2 ≤ length c.args.piece.now = omega arith in (length c.args.piece.now / 2, half, search rules)
