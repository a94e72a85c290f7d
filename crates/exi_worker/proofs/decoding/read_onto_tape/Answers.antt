use Rattle.exi_processing.specs.Reading.{job_of}
use Rattle.exi_tape.specs.declared.tape_out.TapeOut.{TapeOut}
use Rattle.exi_worker.proofs.Taping.{outcome}
use Rattle.exi_worker.proofs.decoding.read_onto_tape.Goals as goal

pub returns-clause-outcome : goal.returns-clause-outcome
returns-clause-outcome g c =
    let r = c.read_fragment-read.ensures.read in
    outcome (λ (o : TapeOut g.row.R.Denot). o.tape) (λ (o : TapeOut g.row.R.Denot). o.pass.now) c.read_fragment-read.result (job_of c.args.job.now) c.args.byte r.0 _ c.read_fragment-read.new.out r.1 c.new.ensures.events
