use Rattle.exi_tables.proofs.Firsts.{few_first}
use Rattle.exi_tables.proofs.Growing.{longer_local, longer_prefix, longer_uri}
use Rattle.exi_tables.proofs.Longer.{longer_value}
use Rattle.exi_tables.proofs.laws.grows_by_one.Goals as goal

pub returns-clause-start : goal.returns-clause-start
returns-clause-start c = few_first

pub returns-clause-uri : goal.returns-clause-uri
returns-clause-uri c = longer_uri

pub returns-clause-local : goal.returns-clause-local
returns-clause-local c = longer_local

pub returns-clause-prefix : goal.returns-clause-prefix
returns-clause-prefix c = longer_prefix

pub returns-clause-value : goal.returns-clause-value
returns-clause-value c = longer_value
