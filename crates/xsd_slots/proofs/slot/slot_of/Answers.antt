use Rattle.std.proofs.Common.{map, arith}
use Rattle.xsd_slots.specs.Shown.{shown}
use Rattle.xsd_slots.specs.Slots.{slot_of}
use Rattle.xsd_slots.proofs.Tables.{slot_ended, slot_found, slot_passed}
use Rattle.xsd_slots.proofs.slot.slot_of.Goals as goal

pub returns-then-is_among : goal.returns-then-is_among
returns-then-is_among c = slot_found _ c.args.slots.now c.args.part c.loop-slot.slot-index c.is_among.result (slot_of (map shown c.args.slots.now) c.args.part) c.loop-slot-test.true c.if-is_among.true c.is_among.ensures c.loop-slot.invariant

pub loop-slot-preserved : goal.loop-slot-preserved
loop-slot-preserved c = slot_passed _ c.args.slots.now c.args.part c.loop-slot.slot-index c.is_among.result (slot_of (map shown c.args.slots.now) c.args.part) c.loop-slot-test.true c.if-is_among.false c.is_among.ensures c.loop-slot.invariant

pub returns : goal.returns
returns c = slot_ended c.args.slots.now c.args.part c.loop-slot.slot-index (slot_of (map shown c.args.slots.now) c.args.part) (omega arith) c.loop-slot.invariant
