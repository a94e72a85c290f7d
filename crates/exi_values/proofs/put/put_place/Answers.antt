use Rattle.exi_typed.proofs.Writes.{fits}
use Rattle.exi_values.proofs.put.put_place.Goals as goal

pub put-requires-clause-fits : goal.put-requires-clause-fits
put-requires-clause-fits c = rw c.bits_for.ensures.width (fits c.args.count c.args.place c.requires.within)
