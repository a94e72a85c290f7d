use Rattle.exi_choice.specs.Wanted.{of_kind}
use Rattle.exi_pen.proofs.EventKinds.{close_ends}
use Rattle.exi_pen.proofs.EventNames.{grow_begun, keeps_close, levels_begun}
use Rattle.exi_processing.specs.declared.rule.Content.TheVariants as content
use Rattle.exi_pen.proofs.pen.Pen.end_apart.Goals as goal

pub close_on-requires-clause-room : goal.close_on-requires-clause-room
close_on-requires-clause-room g c = grow_begun (of_kind content.EndElement) c.args.self.now c.begin_end.new.self c.toll-toll.result c.begin_end.new.toll c.in_ok-begin_end.field-0 c.requires.ready c.in_ok-begin_end.ensures.begins

pub close_on-requires-clause-level : goal.close_on-requires-clause-level
close_on-requires-clause-level g c = (levels_begun (of_kind content.EndElement) c.args.self.now c.begin_end.new.self c.toll-toll.result c.begin_end.new.toll c.in_ok-begin_end.field-0 c.requires.ready c.in_ok-begin_end.ensures.begins).inside

pub close_on-requires-clause-kept : goal.close_on-requires-clause-kept
close_on-requires-clause-kept g c = keeps_close c.args.self.now c.begin_end.new.self c.toll-toll.result c.begin_end.new.toll c.in_ok-begin_end.field-0 c.toll-toll.ensures c.requires.ready c.in_ok-begin_end.ensures.begins

pub returns : goal.returns
returns g c = record {
  writes = close_ends c.close_on.result c.args.self.now c.begin_end.new.self c.close_on.new.self c.toll-toll.result c.begin_end.new.toll c.in_ok-begin_end.field-0 c.requires.ready c.toll-toll.ensures c.in_ok-begin_end.ensures.begins c.close_on.ensures;
}
