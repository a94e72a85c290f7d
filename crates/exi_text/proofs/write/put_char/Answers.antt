use Rattle.std.proofs.Common.{arith}
use Rattle.exi_text.proofs.Sets.{found_fits, place_fits}
use Rattle.exi_text.proofs.write.put_char.Goals as goal

pub put-requires-clause-fits : goal.put-requires-clause-fits
put-requires-clause-fits c = rw c.width.ensures.width (found_fits c.args.c c.in-Some.set.now c.in-Some-place_of.place c.in-Some-place_of.ensures)

pub put-requires-in-Some-clause-fits : goal.put-requires-in-Some-clause-fits
put-requires-in-Some-clause-fits c = rw (c.width-in-Some.ensures.width, c.len.ensures) (place_fits c.in-Some.set.now _ (omega arith))
