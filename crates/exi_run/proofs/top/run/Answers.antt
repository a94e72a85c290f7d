use Rattle.exi_names.specs.Events.{Rose}
use Rattle.exi_run.specs.Tasks.{task_of}
use Rattle.exi_run.specs.declared.form.Form.TheVariants as form
use Rattle.exi_run.proofs.Answering.{tells, refused, usage_is, long_is, too_long_is, refusal_is, not_later, completes, counts, refuses_document, schema_is, writes, writes_none, events_is, starves_is}
use Rattle.exi_run.proofs.Backs.{reads_back}
use Rattle.exi_run.proofs.Headline.{headline_reads, headline_writes}
use Rattle.exi_run.proofs.Writable.{derives, derives_not}
use Rattle.exi_run.proofs.top.run.Goals as goal

pub returns-clause-reads : goal.returns-clause-reads
returns-clause-reads g c = headline_reads c.one_document.ensures.one (task_of c.args.words.now) (g.F.Shelf.files c.args.shelf.now) (Rose (g.F.Shelf.faults c.args.shelf.now) (g.F.Shelf.faults c.respond.new.shelf)) c.respond.result (g.O.Sink.taken c.args.out.now) (g.O.Sink.taken c.respond.new.out) c.respond.ensures.answered

pub returns-clause-writes : goal.returns-clause-writes
returns-clause-writes g c = headline_writes c.written_is_writable.ensures.written c.written_is_writable.ensures.refused c.written_is_read.ensures c.one_document.ensures.one (task_of c.args.words.now) (g.F.Shelf.files c.args.shelf.now) (Rose (g.F.Shelf.faults c.args.shelf.now) (g.F.Shelf.faults c.respond.new.shelf)) c.respond.result (g.O.Sink.taken c.args.out.now) (g.O.Sink.taken c.respond.new.out) c.respond.ensures.ready c.respond.ensures.stands c.respond.ensures.answered

pub returns-clause-read : goal.returns-clause-read
returns-clause-read g c = tells form.Text (task_of c.args.words.now) (g.F.Shelf.files c.args.shelf.now) (Rose (g.F.Shelf.faults c.args.shelf.now) (g.F.Shelf.faults c.respond.new.shelf)) c.respond.result (g.O.Sink.taken c.args.out.now) (g.O.Sink.taken c.respond.new.out) c.respond.ensures.answered

pub returns-clause-index : goal.returns-clause-index
returns-clause-index g c = tells form.Starts (task_of c.args.words.now) (g.F.Shelf.files c.args.shelf.now) (Rose (g.F.Shelf.faults c.args.shelf.now) (g.F.Shelf.faults c.respond.new.shelf)) c.respond.result (g.O.Sink.taken c.args.out.now) (g.O.Sink.taken c.respond.new.out) c.respond.ensures.answered

pub returns-clause-write : goal.returns-clause-write
returns-clause-write g c = writes (task_of c.args.words.now) (g.F.Shelf.files c.args.shelf.now) (Rose (g.F.Shelf.faults c.args.shelf.now) (g.F.Shelf.faults c.respond.new.shelf)) c.respond.result (g.O.Sink.taken c.args.out.now) (g.O.Sink.taken c.respond.new.out) c.respond.ensures.answered

pub returns-clause-read_back : goal.returns-clause-read_back
returns-clause-read_back g c = reads_back c.written_is_read.ensures (task_of c.args.words.now) (g.F.Shelf.files c.args.shelf.now) c.respond.result c.respond.ensures.ready c.respond.ensures.stands

pub returns-clause-events : goal.returns-clause-events
returns-clause-events g c = writes_none (task_of c.args.words.now) (g.F.Shelf.files c.args.shelf.now) (Rose (g.F.Shelf.faults c.args.shelf.now) (g.F.Shelf.faults c.respond.new.shelf)) c.respond.result (g.O.Sink.taken c.args.out.now) (g.O.Sink.taken c.respond.new.out) c.respond.ensures.answered

pub returns-clause-events_only : goal.returns-clause-events_only
returns-clause-events_only g c = events_is (task_of c.args.words.now) (g.F.Shelf.files c.args.shelf.now) (Rose (g.F.Shelf.faults c.args.shelf.now) (g.F.Shelf.faults c.respond.new.shelf)) c.respond.result (g.O.Sink.taken c.args.out.now) (g.O.Sink.taken c.respond.new.out) c.respond.ensures.answered

pub returns-clause-starved : goal.returns-clause-starved
returns-clause-starved g c = starves_is (task_of c.args.words.now) (g.F.Shelf.files c.args.shelf.now) (Rose (g.F.Shelf.faults c.args.shelf.now) (g.F.Shelf.faults c.respond.new.shelf)) c.respond.result (g.O.Sink.taken c.args.out.now) (g.O.Sink.taken c.respond.new.out) c.respond.ensures.answered

pub returns-clause-refused : goal.returns-clause-refused
returns-clause-refused g c = refused (task_of c.args.words.now) (g.F.Shelf.files c.args.shelf.now) (Rose (g.F.Shelf.faults c.args.shelf.now) (g.F.Shelf.faults c.respond.new.shelf)) c.respond.result (g.O.Sink.taken c.args.out.now) (g.O.Sink.taken c.respond.new.out) c.respond.ensures.answered

pub returns-clause-usage : goal.returns-clause-usage
returns-clause-usage g c = usage_is (task_of c.args.words.now) (g.F.Shelf.files c.args.shelf.now) (Rose (g.F.Shelf.faults c.args.shelf.now) (g.F.Shelf.faults c.respond.new.shelf)) c.respond.result (g.O.Sink.taken c.args.out.now) (g.O.Sink.taken c.respond.new.out) c.respond.ensures.answered

pub returns-clause-too_long : goal.returns-clause-too_long
returns-clause-too_long g c = long_is (task_of c.args.words.now) (g.F.Shelf.files c.args.shelf.now) (Rose (g.F.Shelf.faults c.args.shelf.now) (g.F.Shelf.faults c.respond.new.shelf)) c.respond.result (g.O.Sink.taken c.args.out.now) (g.O.Sink.taken c.respond.new.out) c.respond.ensures.answered c.respond.ensures.read_fault

pub returns-clause-too_long_only : goal.returns-clause-too_long_only
returns-clause-too_long_only g c = too_long_is (task_of c.args.words.now) (g.F.Shelf.files c.args.shelf.now) (Rose (g.F.Shelf.faults c.args.shelf.now) (g.F.Shelf.faults c.respond.new.shelf)) c.respond.result (g.O.Sink.taken c.args.out.now) (g.O.Sink.taken c.respond.new.out) c.respond.ensures.answered

pub returns-clause-refusal : goal.returns-clause-refusal
returns-clause-refusal g c = refusal_is (task_of c.args.words.now) (g.F.Shelf.files c.args.shelf.now) (Rose (g.F.Shelf.faults c.args.shelf.now) (g.F.Shelf.faults c.respond.new.shelf)) c.respond.result (g.O.Sink.taken c.args.out.now) (g.O.Sink.taken c.respond.new.out) c.respond.ensures.answered

pub returns-clause-never : goal.returns-clause-never
returns-clause-never g c = not_later (task_of c.args.words.now) (g.F.Shelf.files c.args.shelf.now) (Rose (g.F.Shelf.faults c.args.shelf.now) (g.F.Shelf.faults c.respond.new.shelf)) c.respond.result (g.O.Sink.taken c.args.out.now) (g.O.Sink.taken c.respond.new.out) c.respond.ensures.answered

pub returns-clause-complete : goal.returns-clause-complete
returns-clause-complete g c = completes (task_of c.args.words.now) (g.F.Shelf.files c.args.shelf.now) (Rose (g.F.Shelf.faults c.args.shelf.now) (g.F.Shelf.faults c.respond.new.shelf)) (Rose (g.O.Sink.faults c.args.out.now) (g.O.Sink.faults c.respond.new.out)) c.respond.result (g.O.Sink.taken c.args.out.now) (g.O.Sink.taken c.respond.new.out) c.respond.ensures.answered c.respond.ensures.read_fault c.respond.ensures.write_fault

pub returns-clause-schema : goal.returns-clause-schema
returns-clause-schema g c = counts (task_of c.args.words.now) (g.F.Shelf.files c.args.shelf.now) (Rose (g.F.Shelf.faults c.args.shelf.now) (g.F.Shelf.faults c.respond.new.shelf)) c.respond.result (g.O.Sink.taken c.args.out.now) (g.O.Sink.taken c.respond.new.out) c.respond.ensures.answered

pub returns-clause-schema_refused : goal.returns-clause-schema_refused
returns-clause-schema_refused g c = refuses_document (task_of c.args.words.now) (g.F.Shelf.files c.args.shelf.now) (Rose (g.F.Shelf.faults c.args.shelf.now) (g.F.Shelf.faults c.respond.new.shelf)) c.respond.result (g.O.Sink.taken c.args.out.now) (g.O.Sink.taken c.respond.new.out) c.respond.ensures.answered

pub returns-clause-schema_only : goal.returns-clause-schema_only
returns-clause-schema_only g c = schema_is (task_of c.args.words.now) (g.F.Shelf.files c.args.shelf.now) (Rose (g.F.Shelf.faults c.args.shelf.now) (g.F.Shelf.faults c.respond.new.shelf)) c.respond.result (g.O.Sink.taken c.args.out.now) (g.O.Sink.taken c.respond.new.out) c.respond.ensures.answered

pub returns-clause-derived : goal.returns-clause-derived
returns-clause-derived g c = derives c.written_is_writable.ensures.written (task_of c.args.words.now) (g.F.Shelf.files c.args.shelf.now) (Rose (g.F.Shelf.faults c.args.shelf.now) (g.F.Shelf.faults c.respond.new.shelf)) c.respond.result (g.O.Sink.taken c.args.out.now) (g.O.Sink.taken c.respond.new.out) c.respond.ensures.answered

pub returns-clause-not_derived : goal.returns-clause-not_derived
returns-clause-not_derived g c = derives_not c.written_is_writable.ensures.refused (task_of c.args.words.now) (g.F.Shelf.files c.args.shelf.now) (Rose (g.F.Shelf.faults c.args.shelf.now) (g.F.Shelf.faults c.respond.new.shelf)) c.respond.result (g.O.Sink.taken c.args.out.now) (g.O.Sink.taken c.respond.new.out) c.respond.ensures.answered
