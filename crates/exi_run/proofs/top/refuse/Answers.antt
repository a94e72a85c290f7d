use Rattle.exi_run.proofs.Answering.{refused_part, refused_starved}
use Rattle.exi_run.proofs.top.refuse.Goals as goal

pub returns-in-Err-Failed-clause-answered : goal.returns-in-Err-Failed-clause-answered
returns-in-Err-Failed-clause-answered g c =
    let part = rw c.in-Err-Failed.field-0-is at c.in-Err-Failed.ensures in
    refused_part c.args.refusal (g.O.Sink.taken c.args.out.now) (g.O.Sink.taken c.put_refusal.new.out) part.0

pub returns-in-Err-Memory-clause-answered : goal.returns-in-Err-Memory-clause-answered
returns-in-Err-Memory-clause-answered g c =
    let same = rw c.in-Err-Memory.field-0-is at c.in-Err-Memory.ensures in
    refused_starved c.args.refusal c.starve.result (g.O.Sink.taken c.args.out.now) (g.O.Sink.taken c.put_refusal.new.out) (g.O.Sink.taken c.starve.new.out) same.0 c.starve.ensures.starves
