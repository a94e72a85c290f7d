-- The slots as the program has them.
use Rattle.std.specs.Prelude.{Option, Some, None}
use Rattle.xsd_slots.specs.Slots.{Place, slot}
use Rattle.xsd_slots.specs.declared.slot.Slot.{Slot}

abbrev pub shown : Slot → Place
shown s = slot s.parts.now s.after s.own

abbrev pub found : Option Slot → Option Place
found None = None
found (Some s) = Some (shown s)
