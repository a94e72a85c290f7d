use Rattle.exi_gram.proofs.CodeItems.{below_width}
use Rattle.exi_builtin.proofs.writing.write_part.Goals as goal

pub put-requires-clause-fits : goal.put-requires-clause-fits
put-requires-clause-fits c = rw (c.bits_for.ensures.width, c.from.ensures, c.from-2.ensures) (below_width _ _ c.requires.below)
