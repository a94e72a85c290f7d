-- The event that stands in a room.
use Rattle.std.specs.Prelude.{ℕ, List, Bool, true, false, Option, Some, None}
use Rattle.exi_names.specs.Seen.{Value, text, seen}
use Rattle.exi_names.specs.Events as event
use Rattle.exi_names.specs.declared.names.QName.{QName}
use Rattle.exi_names.specs.declared.val.Val.{Val}
use Rattle.exi_tape.specs.declared.room.Room.{Room}
use Rattle.exi_tape.specs.declared.room.Held.{Held}
use Rattle.exi_tape.specs.declared.room.Held.TheVariants as held
use Rattle.exi_tape.specs.declared.room.Shape.{Shape}
use Rattle.exi_tape.specs.declared.room.Shape.TheVariants as shape

abbrev pub some_if : Bool → List ℕ → Option (List ℕ)
some_if false t = None
some_if true t = Some t

-- the name of these parts
abbrev pub name_of : List ℕ → List ℕ → List ℕ → Bool → QName
name_of uri local prefix there = record { uri = uri; local = local; prefix = some_if there prefix }

-- the value that is a text, or another
abbrev pub held_of : List ℕ → Val → Held → Value
held_of t v held.Text = text t
held_of t v held.Other = seen v

abbrev pub named_in : Bool → Room → QName
named_in there r = name_of r.first r.second r.third there

abbrev pub held_in : Held → Room → Value
held_in h r = held_of r.fourth r.value h

-- the event of this shape
abbrev pub made : Room → Shape → event.Happening
made r shape.Sd = event.sd
made r shape.Ed = event.ed
made r (shape.Se there) = event.se (named_in there r)
made r shape.Ee = event.ee
made r (shape.At there h) = event.at (named_in there r) (held_in h r)
made r (shape.Ch h) = event.ch (held_in h r)
made r (shape.Ns element) = event.ns r.first r.second element
made r (shape.Sc place) = event.sc place
made r shape.Cm = event.cm r.first
made r shape.Pi = event.pi r.first r.second
made r shape.Dt = event.dt r.first r.second r.third r.fourth
made r shape.Er = event.er r.first
