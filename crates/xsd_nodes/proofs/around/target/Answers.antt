use Rattle.std.proofs.Common.{sym, ap, ◌∙◌}
use Rattle.std.specs.Prelude.{option_copied}
use Rattle.xsd_nodes.specs.Nodes.{or_empty, text_at}
use Rattle.xsd_nodes.specs.declared.attribute_name.AttributeName.TheVariants as attribute
use Rattle.xsd_nodes.proofs.Words.{no_chars}
use Rattle.xsd_nodes.proofs.around.target.Goals as goal

pub returns-in-None : goal.returns-in-None
returns-in-None c =
    no_chars ∙ ap or_empty (ap option_copied (sym c.in-None.is) ∙ c.text_at.ensures ∙ ap (text_at c.args.nodes.now attribute.TargetNamespace) c.root.ensures)
