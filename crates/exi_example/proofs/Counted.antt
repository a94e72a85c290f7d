-- What reading a body with a counter leaves.
use Rattle.std.proofs.Common.{◌≡◌, ◌≤◌, ◌+◌, ◌^◌, ℕ, Bool, List, [], ◌∷◌, ◌++◌, length, Option, Some, None, Result, Ok, subst, ap, ◌∙◌, arith}
use Rattle.std.proofs.lemmas.List.Sums.{count_by-le-length}
use Rattle.std.specs.List.{count_by}
use Rattle.exi_bits.specs.declared.fault.Fault.{Fault}
use Rattle.exi_meter.specs.Metering.{Bounds, stream_bounds}
use Rattle.exi_meter.specs.declared.tally.Tally.{Tally}
use Rattle.exi_names.specs.Events.{Happening}
use Rattle.exi_names.specs.declared.names.QName.{QName}
use Rattle.exi_processing.proofs.Sequences.{leads_count}
use Rattle.exi_processing.specs.Reading.{Sequences}
use Rattle.exi_processing.specs.Runs.{IsSequence, Job, events_of, first}
use Rattle.exi_processing.specs.declared.end.End.{End}
use Rattle.exi_processing.specs.declared.end.End.TheVariants as end
use Rattle.exi_processing.specs.declared.start.Start.TheVariants as start
use Rattle.exi_processing.specs.declared.turn.ReadStop.{ReadStop}
use Rattle.exi_example.specs.Counting.{AreCounts, Grew, HasCounted, IsCounted, IsWrong, is_attribute, is_characters, is_element, no_counts}
use Rattle.exi_example.specs.declared.counts.Counts.{Counts}

-- within the limits of a stream
pub within_stream : {T : Type 0} (took : T → List Happening → T → Type 0) (broke : T → Happening → T → Type 0) (r : Result End ReadStop) (j : Job) (limits : Bounds) (a b : T) (old new : ℕ) → limits ≡ stream_bounds → Sequences took broke r j start.Body limits a b old new → (before after : ℕ) × Sequences took broke r j start.Body stream_bounds a b before after
within_stream took broke r j limits a b old new is h = (old, new, subst (λ (l : Bounds). Sequences took broke r j start.Body l a b old new) is h)

-- ---- no count is full: a stream has few events
one_more : (before : List (Option Happening)) (x : Option Happening) → length (events_of (before ++ x ∷ [])) ≤ length (events_of before) + 1
one_more [] None = omega arith
one_more [] (Some e) = omega arith
one_more (None ∷ before) x = one_more before x
one_more (Some e ∷ before) x = omega (arith, one_more before x)

few_events : (j : Job) (es : List Happening) (e : End) (turns : ℕ) → IsSequence j start.Body stream_bounds es e turns → length es ≤ 2 ^ 25
few_events j es e turns p =
    let before : List (Option Happening) = p.1.before in
    let n = leads_count j.setting j.bytes (first j start.Body stream_bounds) p.1.reached before p.1.leads (omega arith) in
    let all : length es ≡ length (events_of (before ++ p.1.event ∷ [])) = ap (λ (z : List Happening). length z) p.2 ∙ ap (λ (z : List (Option Happening)). length (events_of z)) p.1.all in
    omega (arith, n.0, all, one_more before p.1.event)

grew_all : (p : Happening → Bool) (es : List Happening) (count : ℕ) → length es ≤ 2 ^ 25 → Grew 0 (count_by p es) count → count ≡ count_by p es
grew_all p es count few grew = let is : count ≡ 0 + count_by p es = grew (omega (arith, few, count_by-le-length p es)) in omega (arith, is)

are_counts : (es : List Happening) (counts : Counts) → length es ≤ 2 ^ 25 → HasCounted no_counts es counts → AreCounts es counts
are_counts es counts few h = record {
  elements = grew_all is_element es counts.elements few h.elements;
  attributes = grew_all is_attribute es counts.attributes few h.attributes;
  characters = grew_all is_characters es counts.characters few h.characters;
}

-- ---- all of it was read
pub counted_all : (j : Job) (bit : ℕ) (tally : Tally) (root : Option QName) (counts : Counts) → ((before after : ℕ) × Sequences (λ a es b. HasCounted a es b) (λ a e b. ⊥) (Ok (end.Done bit tally root)) j start.Body stream_bounds no_counts counts before after) → IsCounted j counts
counted_all j bit tally root counts (before, after, h) = record { events = h.0; bit = bit; tally = tally; root = root; turns = h.1; sequence = h.2; counted = are_counts h.0 counts (few_events j h.0 (end.Done bit tally root) h.1 h.2) h.3 }

-- or up to its fault
pub wrong_at : (j : Job) (fault : Fault) (tally : Tally) (root : Option QName) (counts : Counts) → ((before after : ℕ) × Sequences (λ a es b. HasCounted a es b) (λ a e b. ⊥) (Ok (end.Fault fault tally root)) j start.Body stream_bounds no_counts counts before after) → IsWrong j fault
wrong_at j fault tally root counts (before, after, h) = record { events = h.0; tally = tally; root = root; turns = h.1; sequence = h.2 }
