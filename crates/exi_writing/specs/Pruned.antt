-- What the options leave of an event (EXI 1.0, section 5.4): the events that they switch off are not written, nor are
-- the prefixes of names where prefixes are not kept.
use Rattle.std.specs.Prelude.{Bool, true, false, Option, Some, None, if◌then◌else◌}
use Rattle.exi_gram.specs.Switches.{comments, dtd, prefixes, processing_instructions, self_contained}
use Rattle.exi_gram.specs.declared.options.Options.{Options}
use Rattle.exi_names.specs.declared.names.QName.{QName}
use Rattle.exi_names.specs.Events.{Happening}
use Rattle.exi_names.specs.Events as event
use Rattle.exi_names.specs.Seen.{Value, name}

abbrev pub pruned_name : Options → QName → QName
pruned_name o n = if prefixes o then n else record n { prefix = None }

-- a list holds no names
abbrev pub pruned_value : Options → Value → Value
pruned_value o (name n) = name (pruned_name o n)
pruned_value o v = v

abbrev only : Bool → Happening → Option Happening
only true e = Some e
only false e = None

-- what is written of an event, if anything is
unfoldable pub pruned : Options → Happening → Option Happening
pruned o event.sd = Some event.sd
pruned o event.ed = Some event.ed
pruned o (event.se n) = Some (event.se (pruned_name o n))
pruned o event.ee = Some event.ee
pruned o (event.at n v) = Some (event.at (pruned_name o n) (pruned_value o v))
pruned o (event.ch v) = Some (event.ch (pruned_value o v))
pruned o (event.ns uri prefix element) = only (prefixes o) (event.ns uri prefix element)
pruned o (event.sc byte) = only (self_contained o) (event.sc byte)
pruned o (event.cm t) = only (comments o) (event.cm t)
pruned o (event.pi target t) = only (processing_instructions o) (event.pi target t)
pruned o (event.dt n public system t) = only (dtd o) (event.dt n public system t)
pruned o (event.er n) = only (dtd o) (event.er n)
