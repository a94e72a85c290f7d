-- One event of a list: what the options leave of it, and how it is written.
use Rattle.std.specs.Prelude.{Bool, true, false, Result}
use Rattle.exi_gram.specs.declared.options.Options.{Options}
use Rattle.exi_names.specs.Events.{Happening}
use Rattle.exi_names.specs.Events as event
use Rattle.exi_pen.specs.Pages.{Page, Writes, WritesFragment}
use Rattle.exi_toll.specs.declared.stop.PutStop.{PutStop}
use Rattle.exi_writing.specs.OneEvent.{Refused, Written}
use Rattle.exi_writing.specs.Pruned.{pruned_name, pruned_value}

-- SC is written alone: what the fragment has of its own comes as it is entered
abbrev pub begins_fragment : Happening → Bool
begins_fragment (event.sc byte) = true
begins_fragment e = false

-- what the options leave of an event that they leave
abbrev pub left_of : Options → Happening → Happening
left_of o event.sd = event.sd
left_of o event.ed = event.ed
left_of o (event.se n) = event.se (pruned_name o n)
left_of o event.ee = event.ee
left_of o (event.at n v) = event.at (pruned_name o n) (pruned_value o v)
left_of o (event.ch v) = event.ch (pruned_value o v)
left_of o (event.ns uri prefix element) = event.ns uri prefix element
left_of o (event.sc byte) = event.sc byte
left_of o (event.cm t) = event.cm t
left_of o (event.pi target t) = event.pi target t
left_of o (event.dt n public system t) = event.dt n public system t
left_of o (event.er n) = event.er n

-- an event is written; where it is SC, the body is to be put aside
abbrev pub StepsAs : Bool → Result Bool PutStop → Page → Page → Result Written Refused → Type 0
StepsAs true result old new w = WritesFragment result old new w
StepsAs false result old new w = Writes result old new w
