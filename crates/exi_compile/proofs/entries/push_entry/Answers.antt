use Rattle.exi_compile.proofs.Telling.{no_entry}
use Rattle.exi_compile.proofs.entries.push_entry.Goals as goal

pub returns-else-index-elements : goal.returns-else-index-elements
returns-else-index-elements c = no_entry c.args.entries.now c.args.elements.now c.args.grammars.now c.args.place c.if-index-elements.false
