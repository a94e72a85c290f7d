use Rattle.std.proofs.Common.{map, ◌∙◌}
use Rattle.exi_names.specs.Events.{happens}
use Rattle.xsd_known.proofs.Bare.{known_alone, refused_alone}
use Rattle.xsd_known.proofs.alone.types_alone.Goals as goal

pub returns-in-Ok : goal.returns-in-Ok
returns-in-Ok c = known_alone (map happens c.as_slice.result.now) c.in-Ok.known (c.as_slice.ensures ∙ c.in_ok-document.ensures) c.in-Ok.ensures

pub returns-in-Err-Fault : goal.returns-in-Err-Fault
returns-in-Err-Fault c = refused_alone c.no_schema.result (map happens c.as_slice.result.now) c.in-Err-Fault.field-0 c.in-Err-Fault.field-0-0 (c.as_slice.ensures ∙ c.in_ok-document.ensures) c.in-Err-Fault.field-0-is c.in-Err-Fault.ensures c.no_schema.ensures
