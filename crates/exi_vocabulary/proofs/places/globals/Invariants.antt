use Rattle.std.proofs.Common.{◌≡◌, drop}
use Rattle.exi_vocabulary.specs.Vocabulary.{global_places_from}
use Rattle.exi_vocabulary.proofs.Firsts.{globals_on}
use Rattle.exi_vocabulary.proofs.places.globals.Given as goal

abbrev pub invariant-loop-place : goal.invariant-loop-place
invariant-loop-place l = globals_on l.places.items l.place (drop l.place l.elements) ≡ global_places_from 0 l.elements
