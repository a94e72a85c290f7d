use Rattle.exi_run.proofs.Writable.{refused_is_unwritable, written_is_writable}
use Rattle.exi_run.proofs.laws.written_is_writable.Goals as goal

pub returns : goal.returns
returns c = record { written = written_is_writable c.derived_is_written.ensures.exactly; refused = refused_is_unwritable c.derived_is_written.ensures.exactly c.refused_derives_not.ensures.unmatched }
