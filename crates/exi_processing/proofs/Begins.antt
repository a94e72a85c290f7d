-- A turn that gives SC leads to the fragment that it begins.
use Rattle.std.proofs.Common.{ℕ, List, Option, Some, arith}
use Rattle.exi_meter.specs.Metering.{Bounds}
use Rattle.exi_names.specs.Events.{Happening}
use Rattle.exi_names.specs.Events as event
use Rattle.exi_processing.specs.OneEvent.{one}
use Rattle.exi_processing.specs.Runs.{first}
use Rattle.exi_processing.specs.Splices.{ScLeadsToFragment}
use Rattle.exi_processing.proofs.AtFragments.{Deep, at_fragment, led_deep}
use Rattle.exi_processing.proofs.Reached.{reached_are_sound}
use Rattle.exi_processing.proofs.Sequences.{by_result}

pub sc_leads_to_fragment : ScLeadsToFragment
unfolding Deep
sc_leads_to_fragment j s limits turns c next byte book names l h =
    at_fragment j.setting j.bytes c next byte book names (reached_are_sound j s limits turns c book names l) (led_deep j.setting j.bytes turns (first j s limits) c l (omega arith)) (by_result j.bytes c (one j.setting j.bytes c) (Some (event.sc byte)) next h)
