use Rattle.exi_compile.proofs.Telling.{no_name}
use Rattle.exi_compile.proofs.entries.push_named.Goals as goal

pub returns-else-index-elements : goal.returns-else-index-elements
returns-else-index-elements c = no_name c.args.named.now c.args.elements.now c.args.grammars.now c.args.agree.now c.args.otherwise c.args.place c.if-index-elements.false
