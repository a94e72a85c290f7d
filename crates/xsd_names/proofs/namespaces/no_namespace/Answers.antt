use Rattle.xsd_names.proofs.Words.{no_prefix, some_prefix}
use Rattle.xsd_names.proofs.namespaces.no_namespace.Goals as goal

pub returns-then-is_text : goal.returns-then-is_text
returns-then-is_text c = no_prefix c.args.prefix.now c.new.result c.is_text.result c.new.ensures c.if-is_text.true c.is_text.ensures

pub returns-else-is_text : goal.returns-else-is_text
returns-else-is_text c = some_prefix c.args.prefix.now c.is_text.result c.if-is_text.false c.is_text.ensures
