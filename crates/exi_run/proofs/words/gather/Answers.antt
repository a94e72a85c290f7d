use Rattle.exi_run.proofs.Named.{gathered_fits}
use Rattle.exi_run.proofs.words.gather.Goals as goal

pub returns-clause-fit : goal.returns-clause-fit
returns-clause-fit c = gathered_fits c.take_words.result c.args.words.now (rw c.nothing.ensures at c.take_words.ensures)
