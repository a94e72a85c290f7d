use Rattle.std.proofs.Common.{ap, ◌∙◌}
use Rattle.xsd_nodes.specs.declared.attribute_name.AttributeName.TheVariants as attribute
use Rattle.xsd_places.specs.Kinds.{is_told}
use Rattle.xsd_places.proofs.Words.{prohibited_chars}
use Rattle.xsd_places.proofs.kind.is_told_prohibited.Goals as goal

pub returns : goal.returns
returns c = c.is_told.ensures ∙ ap (λ w. is_told c.args.nodes.now attribute.Use w c.args.place) prohibited_chars
