use Rattle.std.proofs.Common.{◌∙◌}
use Rattle.xsd_tree.proofs.Reached.{innermost_is}
use Rattle.xsd_tree.proofs.elements.innermost.Goals as goal

pub returns : goal.returns
returns c = c.copied.ensures ∙ c.last.ensures.value ∙ innermost_is c.args.open_nodes.now
