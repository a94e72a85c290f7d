use Rattle.exi_names.specs.Events.{Rose}
use Rattle.exi_run.specs.Tasks.{task_of}
use Rattle.exi_run.proofs.Answering.{answers_starved}
use Rattle.exi_run.proofs.top.respond.Goals as goal

pub returns-in-Err-Memory-clause-answered : goal.returns-in-Err-Memory-clause-answered
returns-in-Err-Memory-clause-answered g c =
    answers_starved (task_of c.args.words.now) (g.F.Shelf.files c.args.shelf.now) (Rose (g.F.Shelf.faults c.args.shelf.now) (g.F.Shelf.faults c.serve.new.shelf)) c.starve.result (g.O.Sink.taken c.args.out.now) (g.O.Sink.taken c.serve.new.out) (g.O.Sink.taken c.starve.new.out) (rw c.in-Err-Memory.field-0-is at c.in-Err-Memory.ensures.served) c.starve.ensures.starves
