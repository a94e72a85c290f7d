use Rattle.std.proofs.Common.{◌+◌, ◌-◌, ◌^◌, None, arith}
use Rattle.exi_values.proofs.Growths.{few_more}
use Rattle.exi_names.specs.Datatypes as datatype
use Rattle.exi_processing.specs.Rules.{characters}
use Rattle.exi_processing.specs.Plans.{nowhere}
use Rattle.exi_reader.proofs.Stepping.{follow_names, follow_paid, follow_room, follow_unpaid}
use Rattle.exi_reader.proofs.Handed.{hands_fault, hands_memory, hands_ok, hands_stopped}
use Rattle.exi_reader.proofs.stepper.Stepper.follow_characters.Goals as goal

pub returns-in-Err-clause-hands : goal.returns-in-Err-clause-hands
returns-in-Err-clause-hands g c = (
  follow_unpaid c.args.self.now (record { on = characters datatype.text; to = c.args.to; inner = None }) c.args.bit nowhere _ _ c.self.view_is (c.of-charges.ensures) _ c.in-Err.ensures,
  g.met.E.EventOut.none c.args.out.now,
)

pub characters-requires-clause-few : goal.characters-requires-clause-few
characters-requires-clause-few g c = few_more (2 ^ 31 - 2) (2 ^ 31) _ (omega arith) ((follow_room c.args.self.now (record { on = characters datatype.text; to = c.args.to; inner = None }) c.args.bit nowhere _ _ c.self.view_is (c.of-charges.ensures) _ c.in_default.ensures c.requires.room).few)

pub characters-requires-clause-name : goal.characters-requires-clause-name
characters-requires-clause-name g c = follow_names c.args.self.now (record { on = characters datatype.text; to = c.args.to; inner = None }) c.args.bit nowhere _ _ c.self.view_is (c.of-charges.ensures) c.pay.new.meter c.requires.names

pub characters-requires-clause-learns : goal.characters-requires-clause-learns
characters-requires-clause-learns g c = (follow_room c.args.self.now (record { on = characters datatype.text; to = c.args.to; inner = None }) c.args.bit nowhere _ _ c.self.view_is (c.of-charges.ensures) _ c.in_default.ensures c.requires.room).learns

pub returns-in-Ok-clause-hands : goal.returns-in-Ok-clause-hands
returns-in-Ok-clause-hands g c =
    hands_ok g.E.EventOut.took g.E.EventOut.broke _ _ _ (follow_paid c.args.self.now (record { on = characters datatype.text; to = c.args.to; inner = None }) c.args.bit nowhere _ _ c.self.view_is (c.of-charges.ensures) _ c.in_default.ensures)
    _ _ c.in-Ok.fragment c.characters.new.self c.in-Ok.ensures.hands

pub returns-in-Err-Fault-clause-hands : goal.returns-in-Err-Fault-clause-hands
returns-in-Err-Fault-clause-hands g c =
    rw (c.halt_at_event.ensures)
    (hands_fault g.E.EventOut.took g.E.EventOut.broke _ _ _ (follow_paid c.args.self.now (record { on = characters datatype.text; to = c.args.to; inner = None }) c.args.bit nowhere _ _ c.self.view_is (c.of-charges.ensures) _ c.in_default.ensures)
    _ _ c.in-Err-Fault.fault c.characters.new.self.config (rw c.in-Err-Fault.field-0-is at c.in-Err-Fault.ensures.hands))

pub returns-in-Err-Memory-clause-hands : goal.returns-in-Err-Memory-clause-hands
returns-in-Err-Memory-clause-hands g c =
    hands_memory g.E.EventOut.took g.E.EventOut.broke _ _ _ (follow_paid c.args.self.now (record { on = characters datatype.text; to = c.args.to; inner = None }) c.args.bit nowhere _ _ c.self.view_is (c.of-charges.ensures) _ c.in_default.ensures)
    _ _ c.characters.new.self.config (rw c.in-Err-Memory.field-0-is at c.in-Err-Memory.ensures.hands)

pub returns-in-Err-Stopped-clause-hands : goal.returns-in-Err-Stopped-clause-hands
returns-in-Err-Stopped-clause-hands g c =
    hands_stopped g.E.EventOut.took g.E.EventOut.broke _ _ _ (follow_paid c.args.self.now (record { on = characters datatype.text; to = c.args.to; inner = None }) c.args.bit nowhere _ _ c.self.view_is (c.of-charges.ensures) _ c.in_default.ensures)
    _ _ c.characters.new.self.config (rw c.in-Err-Stopped.field-0-is at c.in-Err-Stopped.ensures.hands)
