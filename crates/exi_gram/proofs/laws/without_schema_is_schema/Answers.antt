use Rattle.exi_gram.proofs.WithoutSchema.{without_is_schema}
use Rattle.exi_gram.proofs.laws.without_schema_is_schema.Goals as goal

pub returns : goal.returns
returns c = without_is_schema
