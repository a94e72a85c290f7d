use Rattle.exi_builtin.proofs.Readers.{both_read, it_is, two_reads}
use Rattle.exi_builtin.proofs.laws.reads_are_two.Goals as goal

pub returns-clause-reads : goal.returns-clause-reads
returns-clause-reads c = two_reads

pub returns-clause-read : goal.returns-clause-read
returns-clause-read c = both_read

pub returns-clause-same : goal.returns-clause-same
returns-clause-same c = it_is
