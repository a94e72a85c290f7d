use Rattle.exi_pen.proofs.EventKinds.{start_ends}
use Rattle.exi_pen.proofs.pen.Pen.start_document.Goals as goal

pub returns : goal.returns
returns g c = record {
  writes = start_ends c.go_on.result c.args.self.now c.begin_kind.new.self c.go_on.new.self c.toll-toll.result c.begin_kind.new.toll c.in_ok-rule.rule c.requires.ready c.toll-toll.ensures c.in_ok-rule.ensures.begins c.go_on.ensures;
}
