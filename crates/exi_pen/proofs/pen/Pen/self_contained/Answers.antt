use Rattle.exi_pen.proofs.EventKinds.{fragment_ends}
use Rattle.exi_pen.proofs.pen.Pen.self_contained.Goals as goal

pub returns : goal.returns
returns g c = record {
  writes = λ byte. fragment_ends c.pad_on.result c.args.self.now c.begin_kind.new.self c.pad_on.new.self c.toll-toll.result c.begin_kind.new.toll c.in_ok-begin_kind.field-0 byte c.requires.ready c.toll-toll.ensures c.in_ok-begin_kind.ensures.begins c.pad_on.ensures;
}
