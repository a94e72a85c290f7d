use Rattle.exi_choice.specs.Wanted.{of_kind}
use Rattle.exi_pen.proofs.EventKinds.{end_ends}
use Rattle.exi_pen.proofs.EventNames.{keeps_end, levels_begun}
use Rattle.exi_processing.specs.declared.rule.Content.TheVariants as content
use Rattle.exi_pen.proofs.pen.Pen.end_document.Goals as goal

pub end_on-requires-clause-levels : goal.end_on-requires-clause-levels
end_on-requires-clause-levels g c = levels_begun (of_kind content.EndDocument) c.args.self.now c.begin_kind.new.self c.toll-toll.result c.begin_kind.new.toll c.in_ok-begin_kind.field-0 c.requires.ready c.in_ok-begin_kind.ensures.begins

pub end_on-requires-clause-kept : goal.end_on-requires-clause-kept
end_on-requires-clause-kept g c = keeps_end c.args.self.now c.begin_kind.new.self c.toll-toll.result c.begin_kind.new.toll c.in_ok-begin_kind.field-0 c.toll-toll.ensures c.requires.ready c.in_ok-begin_kind.ensures.begins

pub returns : goal.returns
returns g c = record {
  writes = end_ends c.end_on.result c.args.self.now c.begin_kind.new.self c.end_on.new.self c.toll-toll.result c.begin_kind.new.toll c.in_ok-begin_kind.field-0 c.requires.ready c.toll-toll.ensures c.in_ok-begin_kind.ensures.begins c.end_on.ensures;
}
