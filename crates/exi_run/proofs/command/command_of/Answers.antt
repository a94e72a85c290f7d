use Rattle.exi_run.specs.Tasks.{gathered}
use Rattle.exi_run.proofs.Named.{ready_write}
use Rattle.exi_run.proofs.command.command_of.Goals as goal

pub returns-in-Write-clause-ready : goal.returns-in-Write-clause-ready
returns-in-Write-clause-ready c = ready_write c.args.file.now (gathered c.args.given) c.requires.free c.requires.fit
