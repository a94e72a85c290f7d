use Rattle.std.proofs.Common.{◌≡◌, ap, sym, ◌∙◌}
use Rattle.xsd_schema.specs.Reading.{are_seen}
use Rattle.xsd_schema.specs.Types.{simple_types}
use Rattle.xsd_schema.proofs.Reading.{types_fault, types_read}
use Rattle.xsd_schema.proofs.read.types_by.Goals as goal

pub returns-in-Some-clause-types : goal.returns-in-Some-clause-types
returns-in-Some-clause-types c =
    let same : c.in_ok-simples.simples.nodes ≡ c.args.schema.now = c.in_ok-simples.ensures ∙ c.in_ok-values.ensures ∙ c.requires.paths in
    types_fault c.in_ok-simples.simples.nodes c.args.schema.now c.in_ok-fault.field-0 c.in-Some.fault same c.in_ok-fault.ensures c.in-Some.is

pub returns-clause-types : goal.returns-clause-types
returns-clause-types c =
    let same : c.in_ok-simples.simples.nodes ≡ c.args.schema.now = c.in_ok-simples.ensures ∙ c.in_ok-values.ensures ∙ c.requires.paths in
    types_read c.in_ok-simples.simples.nodes c.args.schema.now c.in_ok-fault.field-0 (are_seen c.in_ok-types.types) same c.in_ok-fault.ensures c.in_default.is (c.in_ok-types.ensures.types ∙ ap simple_types (sym same))
