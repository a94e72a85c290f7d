use Rattle.xsd_simple.proofs.Table.{AreFilled}
use Rattle.xsd_simple.proofs.known.Known.of.Given as goal

abbrev pub invariant-loop-place : goal.invariant-loop-place
invariant-loop-place l = AreFilled l.fn.values l.order l.place-index l.forms l.known.entries.items l.known.places.items
