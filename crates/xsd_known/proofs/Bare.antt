-- The types of XML Schema alone are what the document makes known that declares nothing.
use Rattle.std.proofs.Common.{◌≡◌, List, Result, Ok, Err, sym, ap, ◌∙◌}
use Rattle.std.specs.Prelude.{IfOk}
use Rattle.exi_gram.specs.Outlines.{Outline}
use Rattle.exi_gram.specs.Wholes.{without_schema}
use Rattle.exi_names.specs.Events.{Happening}
use Rattle.xsd_model.specs.declared.fault.SchemaFault.{SchemaFault}
use Rattle.xsd_model.specs.declared.fault.SchemaStop.{SchemaStop}
use Rattle.xsd_model.specs.declared.fault.SchemaStop.TheVariants as stop
use Rattle.xsd_known.specs.declared.known.KnownSchema.{KnownSchema as Held}
use Rattle.xsd_known.specs.Alone.{bare_document, grammars_of, types_alone}
use Rattle.xsd_known.specs.Knowing.{known_of}
use Rattle.xsd_known.specs.Promises.{Knows}

pub known_alone : (es : List Happening) (k : Held) → es ≡ bare_document → Knows (Ok k) es → k.schema ≡ types_alone
unfolding types_alone
known_alone es k is knows = sym (ap grammars_of (ap known_of (sym is) ∙ knows))

refused : (es : List Happening) (fault : SchemaFault) → es ≡ bare_document → Knows (Err (stop.Fault fault)) es → without_schema ≡ types_alone
unfolding types_alone
refused es fault is knows = sym (ap grammars_of (ap known_of (sym is) ∙ knows))

none_alone : {E : Type 0} (r : Result Outline E) → without_schema ≡ types_alone → IfOk r (λ s. s ≡ without_schema) → IfOk r (λ s. s ≡ types_alone)
none_alone {E} (Ok s) none is = is ∙ none
none_alone {E} (Err e) none is = tt

pub refused_alone : {E : Type 0} (r : Result Outline E) (es : List Happening) (s : SchemaStop) (fault : SchemaFault) → es ≡ bare_document → s ≡ stop.Fault fault → Knows (Err s) es → IfOk r (λ o. o ≡ without_schema) → IfOk r (λ o. o ≡ types_alone)
refused_alone {E} r es s fault is stops knows none = none_alone r (refused es fault is (rw stops at knows)) none
