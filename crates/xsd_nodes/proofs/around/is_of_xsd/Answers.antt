use Rattle.std.proofs.Common.{ap, ◌∙◌}
use Rattle.std.specs.Str.{bytes_eq}
use Rattle.xsd_nodes.proofs.Words.{xsd_chars}
use Rattle.xsd_nodes.proofs.around.is_of_xsd.Goals as goal

pub returns : goal.returns
returns c = c.is_text.ensures ∙ ap (bytes_eq c.args.name.now.uri) xsd_chars
