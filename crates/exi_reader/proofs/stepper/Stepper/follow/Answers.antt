use Rattle.std.proofs.Common.{◌∙◌}
use Rattle.std.specs.Option.{option_copied}
use Rattle.exi_processing.specs.Handing.{alone_of, rule_in}
use Rattle.exi_reader.proofs.Stepping.{charges_typed, follow_forms, follow_levels, follow_names, follow_paid, follow_room, follow_unpaid}
use Rattle.exi_reader.proofs.Handed.{hands_fault, hands_memory, hands_ok, hands_stopped}
use Rattle.exi_reader.proofs.stepper.Stepper.follow.Goals as goal

pub returns-in-Err-clause-hands : goal.returns-in-Err-clause-hands
returns-in-Err-clause-hands g c = (
  follow_unpaid c.args.self.now (rule_in c.args.rule) c.args.bit (alone_of c.args.alone) _ _ c.self.view_is (c.of-charges.ensures ∙ charges_typed (alone_of c.args.alone) _ c.args.rule.on (option_copied c.args.rule.datatype)) _ c.in-Err.ensures,
  g.met.E.EventOut.none c.args.out.now,
)

pub content-requires-clause-levels : goal.content-requires-clause-levels
content-requires-clause-levels g c = follow_levels c.args.self.now (rule_in c.args.rule) c.args.bit (alone_of c.args.alone) _ _ c.self.view_is (c.of-charges.ensures ∙ charges_typed (alone_of c.args.alone) _ c.args.rule.on (option_copied c.args.rule.datatype)) _ c.in_default.ensures c.requires.levels

pub content-requires-clause-room : goal.content-requires-clause-room
content-requires-clause-room g c = follow_room c.args.self.now (rule_in c.args.rule) c.args.bit (alone_of c.args.alone) _ _ c.self.view_is (c.of-charges.ensures ∙ charges_typed (alone_of c.args.alone) _ c.args.rule.on (option_copied c.args.rule.datatype)) _ c.in_default.ensures c.requires.room

pub content-requires-clause-forms : goal.content-requires-clause-forms
content-requires-clause-forms g c = follow_forms c.args.self.now (rule_in c.args.rule) c.args.bit (alone_of c.args.alone) _ _ c.self.view_is (c.of-charges.ensures ∙ charges_typed (alone_of c.args.alone) _ c.args.rule.on (option_copied c.args.rule.datatype)) c.pay.new.meter c.requires.forms

pub content-requires-clause-names : goal.content-requires-clause-names
content-requires-clause-names g c = follow_names c.args.self.now (rule_in c.args.rule) c.args.bit (alone_of c.args.alone) _ _ c.self.view_is (c.of-charges.ensures ∙ charges_typed (alone_of c.args.alone) _ c.args.rule.on (option_copied c.args.rule.datatype)) c.pay.new.meter c.requires.names

pub returns-in-Ok-clause-hands : goal.returns-in-Ok-clause-hands
returns-in-Ok-clause-hands g c =
    hands_ok g.E.EventOut.took g.E.EventOut.broke _ _ _ (follow_paid c.args.self.now (rule_in c.args.rule) c.args.bit (alone_of c.args.alone) _ _ c.self.view_is (c.of-charges.ensures ∙ charges_typed (alone_of c.args.alone) _ c.args.rule.on (option_copied c.args.rule.datatype)) _ c.in_default.ensures)
    _ _ c.in-Ok.fragment c.content.new.self c.in-Ok.ensures.hands

pub returns-in-Err-Fault-clause-hands : goal.returns-in-Err-Fault-clause-hands
returns-in-Err-Fault-clause-hands g c =
    rw (c.halt_at_event.ensures)
    (hands_fault g.E.EventOut.took g.E.EventOut.broke _ _ _ (follow_paid c.args.self.now (rule_in c.args.rule) c.args.bit (alone_of c.args.alone) _ _ c.self.view_is (c.of-charges.ensures ∙ charges_typed (alone_of c.args.alone) _ c.args.rule.on (option_copied c.args.rule.datatype)) _ c.in_default.ensures)
    _ _ c.in-Err-Fault.fault c.content.new.self.config (rw c.in-Err-Fault.field-0-is at c.in-Err-Fault.ensures.hands))

pub returns-in-Err-Memory-clause-hands : goal.returns-in-Err-Memory-clause-hands
returns-in-Err-Memory-clause-hands g c =
    hands_memory g.E.EventOut.took g.E.EventOut.broke _ _ _ (follow_paid c.args.self.now (rule_in c.args.rule) c.args.bit (alone_of c.args.alone) _ _ c.self.view_is (c.of-charges.ensures ∙ charges_typed (alone_of c.args.alone) _ c.args.rule.on (option_copied c.args.rule.datatype)) _ c.in_default.ensures)
    _ _ c.content.new.self.config (rw c.in-Err-Memory.field-0-is at c.in-Err-Memory.ensures.hands)

pub returns-in-Err-Stopped-clause-hands : goal.returns-in-Err-Stopped-clause-hands
returns-in-Err-Stopped-clause-hands g c =
    hands_stopped g.E.EventOut.took g.E.EventOut.broke _ _ _ (follow_paid c.args.self.now (rule_in c.args.rule) c.args.bit (alone_of c.args.alone) _ _ c.self.view_is (c.of-charges.ensures ∙ charges_typed (alone_of c.args.alone) _ c.args.rule.on (option_copied c.args.rule.datatype)) _ c.in_default.ensures)
    _ _ c.content.new.self.config (rw c.in-Err-Stopped.field-0-is at c.in-Err-Stopped.ensures.hands)
