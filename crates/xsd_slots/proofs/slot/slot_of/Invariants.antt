use Rattle.std.proofs.Common.{◌≡◌, drop, map}
use Rattle.xsd_slots.specs.Shown.{shown}
use Rattle.xsd_slots.specs.Slots.{slot_of}
use Rattle.xsd_slots.proofs.slot.slot_of.Given as goal

abbrev pub invariant-loop-slot : goal.invariant-loop-slot
invariant-loop-slot l = slot_of (drop l.slot-index (map shown l.fn.slots)) l.fn.part ≡ slot_of (map shown l.fn.slots) l.fn.part
