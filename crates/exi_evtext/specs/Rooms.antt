-- What a room for events holds.
use Rattle.std.specs.Prelude.{◌≡◌, ℕ, List, Some}
use Rattle.exi_names.specs.declared.event.Event.{Event}
use Rattle.exi_names.specs.Events as event
use Rattle.exi_names.specs.Events.{Happening}
use Rattle.exi_names.specs.Seen as shape
use Rattle.exi_evtext.specs.Reading.{opened_at}
use Rattle.exi_evtext.specs.declared.room.Held.{Held}
use Rattle.exi_evtext.specs.declared.room.Held.TheVariants as held

-- the event of the place that is held
abbrev pub chosen : Held → Event → Event → Event → Event → Event → Event
chosen held.Start start attribute characters end other = start
chosen held.Attribute start attribute characters end other = attribute
chosen held.Characters start attribute characters end other = characters
chosen held.End start attribute characters end other = end
chosen held.Other start attribute characters end other = other

-- characters of the text that the bytes begin with, behind the quote that opens it
pub record HoldsOpened (bytes : List ℕ) (held : Happening) (behind : List ℕ) : Type 0 where
  pub text : List ℕ
  pub read : opened_at bytes ≡ Some (text, behind)
  pub is : held ≡ event.ch (shape.text text)
