-- What the making of grammars promises.
use Rattle.std.specs.Prelude.{◌≡◌, ◌<◌, ◌≤◌, ℕ, Bool, Option, Some, None, Result, Ok, Err, slice_get}
use Rattle.exi_gram.specs.declared.grammar.Proto.{Proto}
use Rattle.xsd_model.specs.declared.fault.SchemaKind.TheVariants as kind
use Rattle.xsd_model.specs.declared.fault.SchemaStop.{SchemaStop}
use Rattle.xsd_model.specs.declared.fault.SchemaStop.TheVariants as schema
use Rattle.xsd_model.specs.declared.parts.TypeDef.{TypeDef}
use Rattle.xsd_model.specs.Parts.{Parts}
use Rattle.exi_counts.specs.Counts.{most_states, type_states}
use Rattle.exi_draft.specs.Drafts.{draft_of}
use Rattle.exi_proto.specs.declared.stop.ProtoStop.{ProtoStop}
use Rattle.exi_proto.specs.declared.stop.ProtoStop.TheVariants as stop
use Rattle.exi_proto.specs.Protos.{draft_of_type}

-- the grammar that is defined, exactly where it has not too many states
abbrev pub Drafts : Result Proto ProtoStop → Parts → ℕ → Bool → Type 0
Drafts (Ok proto) p of empty = (draft_of proto ≡ draft_of_type p of empty) × (type_states p of empty ≤ most_states)
Drafts (Err stop.TooLarge) p of empty = most_states < type_states p of empty
Drafts (Err stop.Memory) p of empty = Unit {0}

-- the event at which a type starts
abbrev pub type_event : Parts → ℕ → ℕ
type_event p place = of_type (slice_get p.types place)
  where
    of_type : Option TypeDef → ℕ
    of_type None = 0
    of_type (Some t) = t.event

-- the same, and a grammar of too many states is told as a fault of the schema, where the type starts
abbrev pub DraftsOf : Result Proto SchemaStop → Parts → ℕ → Bool → Type 0
DraftsOf (Ok proto) p of empty = (draft_of proto ≡ draft_of_type p of empty) × (type_states p of empty ≤ most_states)
DraftsOf (Err (schema.Fault fault)) p of empty = (fault ≡ record { kind = kind.TooLarge; event = type_event p of }) × (most_states < type_states p of empty)
DraftsOf (Err schema.Memory) p of empty = Unit {0}
