use Rattle.exi_run.specs.Tasks.{task_of}
use Rattle.exi_run.proofs.Backs.{ready_of}
use Rattle.exi_run.proofs.command.command_in.Goals as goal

pub returns-clause-words : goal.returns-clause-words
returns-clause-words c = ready_of c.of.result (task_of c.args.words.now) c.of.ensures.task c.of.ensures.ready
