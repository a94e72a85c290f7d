use Rattle.std.specs.Prelude.{codes}
use Rattle.xsd_tree.specs.Trees.{xsd}
use Rattle.xsd_tree.proofs.Names.{by_bytes, schema_ascii, schema_else, schema_then, xsd_ascii}
use Rattle.xsd_tree.proofs.elements.is_schema.Goals as goal

pub returns-then-eq : goal.returns-then-eq
returns-then-eq c =
    schema_then c.args.name.now c.eq.result c.eq-then-eq.result c.if-eq.true
    (by_bytes c.args.name.now.uri xsd c.as_str.result.now c.eq.result c.as_str.ensures.bytes xsd_ascii c.eq.ensures)
    (by_bytes c.args.name.now.local (codes "schema") c.as_str-then-eq.result.now c.eq-then-eq.result c.as_str-then-eq.ensures.bytes schema_ascii c.eq-then-eq.ensures)

pub returns-else-eq : goal.returns-else-eq
returns-else-eq c =
    schema_else c.args.name.now c.eq.result c.if-eq.false
    (by_bytes c.args.name.now.uri xsd c.as_str.result.now c.eq.result c.as_str.ensures.bytes xsd_ascii c.eq.ensures)
