use Rattle.std.proofs.Common.{false, refl, ap, ◌∙◌}
use Rattle.xsd_schema.specs.Seen.{simple}
use Rattle.xsd_schema.proofs.Names.{built_in_form}
use Rattle.xsd_schema.proofs.built_in.simple_built_in.Goals as goal

pub returns-clause-seen : goal.returns-clause-seen
returns-clause-seen c = ap (λ r. simple r false) (c.form.ensures.form refl ∙ built_in_form c.args.simples.now.nodes c.args.place)
