use Rattle.exi_proto.proofs.Lining.{fits_alone, fits_behind}
use Rattle.exi_proto.proofs.contents.element_states.Goals as goal

pub particles_line-requires-clause-fits : goal.particles_line-requires-clause-fits
particles_line-requires-clause-fits c = fits_behind c.args.counts.now c.args.any c.args.particles.now c.args.first c.behind.result c.if-any-2.true c.requires.fits (c.are_few.ensures c.if-not-are_few.false) c.behind.ensures

pub particles_line-requires-else-any-2-clause-fits : goal.particles_line-requires-else-any-2-clause-fits
particles_line-requires-else-any-2-clause-fits c = fits_alone c.args.counts.now c.args.any c.args.particles.now c.args.first c.if-any-2.false c.if-is_empty.ensures c.requires.fits (c.are_few.ensures c.if-not-are_few.false)
