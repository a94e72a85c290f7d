use Rattle.std.proofs.Common.{◌≡◌, IfOk, Option, subst}
use Rattle.xsd_type_wildcards.specs.Told.{told_in}
use Rattle.xsd_type_wildcards.specs.declared.source.Source.{Source}
use Rattle.xsd_type_wildcards.proofs.Bases.{told_by_holder}
use Rattle.xsd_type_wildcards.proofs.types.told_by.Goals as goal

pub returns : goal.returns
returns c =
    subst (λ (x : Option Source). IfOk c.derived_told.result (λ o. o ≡ x))
    (told_by_holder c.args.paths.now c.schema-schema.result.now (told_in c.args.types.now) c.args.place c.attributes_in.result c.is_simple.result c.schema-schema.ensures c.is_simple.ensures c.if-is_simple.false c.attributes_in.ensures)
    c.derived_told.ensures
