use Rattle.std.proofs.Common.{ap}
use Rattle.exi_names.specs.Events.{happens}
use Rattle.exi_names.specs.Seen.{seen}
use Rattle.exi_names.specs.Shown.{named}
use Rattle.exi_pen.proofs.Stepped.{shown_attribute, shown_element}
use Rattle.exi_pen.proofs.pen.Pen.plain.Goals as goal

pub returns-in-Se : goal.returns-in-Se
returns-in-Se g c = record {
  writes = shown_element c.element.result c.args.self.now c.element.new.self (happens c.args.event.now) c.in-Se.name (named c.as_ref.result) (ap happens c.in-Se.is) c.as_ref.ensures c.element.ensures.writes;
}

pub returns-in-At : goal.returns-in-At
returns-in-At g c = record {
  writes = shown_attribute c.attribute.result c.args.self.now c.attribute.new.self (happens c.args.event.now) c.in-At.name (named c.as_ref-in-At.result) (seen c.in-At.value) (ap happens c.in-At.is) c.as_ref-in-At.ensures c.attribute.ensures.writes;
}
