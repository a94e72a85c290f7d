-- What holds of the grammar of a type before it is normal.
use Rattle.std.specs.Prelude.{◌≡◌, ℕ, Bool, length}
use Rattle.xsd_model.specs.Parts.{Parts}
use Rattle.exi_counts.specs.Counts.{type_states}
use Rattle.exi_draft.specs.Drafts.{LeadsInside}
use Rattle.exi_proto.specs.Protos.{draft_of_type}

-- the states are as many as were counted
abbrev pub CountedIsMade : Type 0
CountedIsMade = (p : Parts) (of : ℕ) (empty : Bool) → length (draft_of_type p of empty).states ≡ type_states p of empty

-- each step and the content lead to one of them
abbrev pub AllLeadInside : Type 0
AllLeadInside = (p : Parts) (of : ℕ) (empty : Bool) → LeadsInside (draft_of_type p of empty)
