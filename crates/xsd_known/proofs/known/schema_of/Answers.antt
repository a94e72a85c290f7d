use Rattle.std.proofs.Common.{map, ap, ◌∙◌}
use Rattle.std.proofs.lemmas.Result.{err_from_is_err_and}
use Rattle.exi_names.specs.Events.{happens}
use Rattle.xsd_schema.specs.Words.{as_told}
use Rattle.xsd_known.specs.Knowing.{with_schema}
use Rattle.xsd_known.proofs.Answered.{known_is, stopped}
use Rattle.xsd_known.proofs.known.schema_of.Goals as goal

pub returns-in_err-schema : goal.returns-in_err-schema
returns-in_err-schema c =
    let knows = stopped c.in_ok-components.components (map happens c.args.events.now) c.in_err-schema.field-0.0 c.in_ok-components.ensures c.in_err-schema.ensures in
    let result = err_from_is_err_and c.from_residual-in_err-schema.result c.from_residual-in_err-schema.ensures.1 in
    rw (result.1, result.2) knows

pub returns : goal.returns
returns c =
    known_is c.in_ok-components.components (map happens c.args.events.now) c.in_ok-components.ensures
    ∙ ap (with_schema (as_told c.in_ok-components.components)) c.in_ok-schema.ensures
