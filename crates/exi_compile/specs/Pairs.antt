-- The normal grammar of a type and its empty form, apart from the items that have them.
use Rattle.std.specs.Prelude.{◌≡◌, ℕ, ◌+◌, ◌-◌, ◌<◌, ◌≤◌, Bool, true, false, Result, Ok, Err, length, if◌then◌else◌}
use Rattle.exi_gram.specs.declared.grammar.Proto.{Proto}
use Rattle.exi_gram.specs.Terminals.{Rules, rules_of}
use Rattle.xsd_model.specs.Parts.{Parts}
use Rattle.exi_counts.specs.Counts.{most_states, type_states}
use Rattle.exi_draft.specs.Drafts.{draft_of}
use Rattle.exi_normal.specs.declared.stop.NormalStop.{NormalStop}
use Rattle.exi_normal.specs.declared.stop.NormalStop.TheVariants as stop
use Rattle.exi_normal.specs.Normals.{Refusal, differ, normal_of, too_large}
use Rattle.exi_proto.specs.Protos.{draft_of_type}
use Rattle.exi_compiled.specs.Compiled.{is_small}
use Rattle.exi_compile.specs.declared.pair.Pair.{Pair}
use Rattle.exi_compile.specs.declared.pair.Protos.{Protos}

abbrev pub IsProto : Result Proto NormalStop → Parts → ℕ → Bool → Type 0
IsProto (Ok proto) p of empty = (draft_of proto ≡ draft_of_type p of empty) × (type_states p of empty ≤ most_states)
IsProto (Err stop.TooLarge) p of empty = most_states < type_states p of empty
IsProto (Err stop.Differ) p of empty = ⊥
IsProto (Err stop.Memory) p of empty = Unit {0}

abbrev pub AreProtos : Result Protos NormalStop → Parts → ℕ → Type 0
AreProtos (Ok protos) p of = (is_small p of ≡ true) × (draft_of protos.full ≡ draft_of_type p of false) × (draft_of protos.empty ≡ draft_of_type p of true)
AreProtos (Err stop.TooLarge) p of = is_small p of ≡ false
AreProtos (Err stop.Differ) p of = ⊥
AreProtos (Err stop.Memory) p of = Unit {0}

abbrev pub pair_with : Rules → Result Rules Refusal → Result (Rules × Rules) Refusal
pair_with empty (Err why) = Err why
pair_with empty (Ok full) = Ok (full, empty)

abbrev pub pair_behind : Parts → ℕ → ℕ → Result Rules Refusal → Result (Rules × Rules) Refusal
pair_behind p of total (Err why) = Err why
pair_behind p of total (Ok empty) = pair_with empty (normal_of (draft_of_type p of false) (most_states - (total + length empty.states)))

-- the full and the empty form of a type, with so many states before them
abbrev pub pair_of : Parts → ℕ → ℕ → Result (Rules × Rules) Refusal
pair_of p of total = if is_small p of then pair_behind p of total (normal_of (draft_of_type p of true) (most_states - total)) else Err too_large

abbrev pub IsPair : Result Pair NormalStop → Result (Rules × Rules) Refusal → Type 0
IsPair (Ok pair) made = made ≡ Ok (rules_of pair.full, rules_of pair.empty)
IsPair (Err stop.TooLarge) made = made ≡ Err too_large
IsPair (Err stop.Differ) made = made ≡ Err differ
IsPair (Err stop.Memory) made = Unit {0}
