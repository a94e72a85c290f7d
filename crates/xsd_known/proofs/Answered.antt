-- What is known of components that a document declares, by what they become.
use Rattle.std.proofs.Common.{◌≡◌, List, Ok, Err, ap, ◌∙◌}
use Rattle.exi_names.specs.Events.{Happening}
use Rattle.xsd_model.specs.declared.fault.SchemaStop.{SchemaStop}
use Rattle.xsd_model.specs.declared.fault.SchemaStop.TheVariants as stop
use Rattle.xsd_model.specs.Parts.{Parts}
use Rattle.xsd_schema.specs.Words.{as_told}
use Rattle.xsd_schema.specs.Words.{components_of}
use Rattle.exi_compile.specs.Promises.{Compiles}
use Rattle.exi_compiled.specs.Compiled.{compiled}
use Rattle.xsd_known.specs.Knowing.{known_by, known_of, with_schema}
use Rattle.xsd_known.specs.Promises.{Knows}
use Rattle.xsd_known.proofs.ToldCompiled.{same_compiled}

pub known_is : (p : Parts) (es : List Happening) → components_of es ≡ Ok (as_told p) → known_of es ≡ with_schema (as_told p) (compiled p)
known_is p es e = ap known_by e ∙ ap (with_schema (as_told p)) (same_compiled p)

pub stopped : (p : Parts) (es : List Happening) (s : SchemaStop) → components_of es ≡ Ok (as_told p) → Compiles (Err s) p → Knows (Err s) es
stopped p es (stop.Fault fault) e h = known_is p es e ∙ ap (with_schema (as_told p)) h
stopped p es stop.Memory e h = tt
