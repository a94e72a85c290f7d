use Rattle.exi_tables.proofs.Growing.{keeps_uri, keeps_local, keeps_prefix, keeps_value, keeps_name}
use Rattle.exi_tables.proofs.laws.keeps_places.Goals as goal

pub returns-clause-uri : goal.returns-clause-uri
returns-clause-uri c = keeps_uri

pub returns-clause-local : goal.returns-clause-local
returns-clause-local c = keeps_local

pub returns-clause-prefix : goal.returns-clause-prefix
returns-clause-prefix c = keeps_prefix

pub returns-clause-value : goal.returns-clause-value
returns-clause-value c = keeps_value

pub returns-clause-names : goal.returns-clause-names
returns-clause-names c = keeps_name
