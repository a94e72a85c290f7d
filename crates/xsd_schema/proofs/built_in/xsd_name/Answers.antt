use Rattle.xsd_schema.proofs.Names.{xsd_named}
use Rattle.xsd_schema.proofs.built_in.xsd_name.Goals as goal

pub returns : goal.returns
returns c = xsd_named c.in_ok-of.field-0 c.in_ok-of-2.field-0 _ c.in_ok-of.ensures c.in_ok-of-2.ensures
