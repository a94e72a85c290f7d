use Rattle.std.proofs.Common.{ap, ◌∙◌}
use Rattle.xsd_places.specs.Kinds.{is_told}
use Rattle.xsd_declared.proofs.Words.{qualified_chars}
use Rattle.xsd_declared.proofs.names.is_told_qualified.Goals as goal

pub returns : goal.returns
returns c = c.is_told.ensures ∙ ap (λ w. is_told c.args.nodes.now c.args.name w c.args.place) qualified_chars
