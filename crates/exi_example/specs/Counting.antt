-- How many events of a kind there are in a list, and what the counts of a stream are.
use Rattle.std.specs.Prelude.{◌≡◌, ◌≤◌, ◌+◌, ◌-◌, ◌^◌, ℕ, Bool, true, false, List, [], ◌++◌, Option, Result, Ok, Err, cond}
use Rattle.std.specs.List.{count_by}
use Rattle.exi_bits.specs.declared.fault.Fault.{Fault}
use Rattle.exi_bits.specs.declared.fault.Stop.{Stop}
use Rattle.exi_bits.specs.declared.fault.Stop.TheVariants as stop
use Rattle.exi_gram.specs.Switches.{default_options}
use Rattle.exi_header.specs.declared.header.Header.{Header}
use Rattle.exi_meter.specs.Metering.{stream_bounds}
use Rattle.exi_meter.specs.declared.tally.Tally.{Tally}
use Rattle.exi_names.specs.Events.{Happening, se, at, ch}
use Rattle.exi_names.specs.declared.names.QName.{QName}
use Rattle.exi_opening.specs.Header.{header_for}
use Rattle.exi_opening.specs.Openings.{job_of}
use Rattle.exi_processing.specs.Runs.{IsSequence, Job}
use Rattle.exi_processing.specs.declared.end.End.TheVariants as end
use Rattle.exi_processing.specs.declared.start.Start.TheVariants as start
use Rattle.exi_example.specs.declared.counts.Counts.{Counts}
use Rattle.std.proofs.Common.{arith}
use Rattle.std.proofs.lemmas.List.Sums.{sum_by-append}

abbrev pub is_element : Happening → Bool
is_element (se name) = true
is_element other = false

abbrev pub is_attribute : Happening → Bool
is_attribute (at name value) = true
is_attribute other = false

abbrev pub is_characters : Happening → Bool
is_characters (ch value) = true
is_characters other = false

-- a count grew by so many, where there is room for them
abbrev pub Grew : ℕ → ℕ → ℕ → Type 0
Grew old more new = old + more ≤ 2 ^ 64 - 1 → new ≡ old + more

-- each count grew by the number of events of its kind
pub record HasCounted (a : Counts) (es : List Happening) (b : Counts) : Type 0 where
  pub elements : Grew a.elements (count_by is_element es) b.elements
  pub attributes : Grew a.attributes (count_by is_attribute es) b.attributes
  pub characters : Grew a.characters (count_by is_characters es) b.characters

pub none_counted : (s : Counts) → HasCounted s [] s
none_counted s = record { elements = λ fits. omega arith; attributes = λ fits. omega arith; characters = λ fits. omega arith }

grew_more : {X : Type 0} (p : X → Bool) (a b c : ℕ) (xs ys : List X) → Grew a (count_by p xs) b → Grew b (count_by p ys) c → Grew a (count_by p (xs ++ ys)) c
grew_more {X} p a b c xs ys first second fits =
    let sum : count_by p (xs ++ ys) ≡ count_by p xs + count_by p ys = sum_by-append (λ x. cond (p x) 1 0) xs ys in
    let some : b ≡ a + count_by p xs = first (omega (arith, fits, sum)) in
    let all : c ≡ b + count_by p ys = second (omega (arith, fits, sum, some)) in
    omega (arith, sum, some, all)

pub more_counted : (a b c : Counts) (es fs : List Happening) → HasCounted a es b → HasCounted b fs c → HasCounted a (es ++ fs) c
more_counted a b c es fs first second = record {
  elements = grew_more is_element a.elements b.elements c.elements es fs first.elements second.elements;
  attributes = grew_more is_attribute a.attributes b.attributes c.attributes es fs first.attributes second.attributes;
  characters = grew_more is_characters a.characters b.characters c.characters es fs first.characters second.characters;
}

-- ---- a stream
abbrev pub no_counts : Counts
no_counts = record { elements = 0; attributes = 0; characters = 0 }

-- how many events of each kind there are
pub record AreCounts (es : List Happening) (counts : Counts) : Type 0 where
  pub elements : counts.elements ≡ count_by is_element es
  pub attributes : counts.attributes ≡ count_by is_attribute es
  pub characters : counts.characters ≡ count_by is_characters es

-- sequential processing of the body ends well, and these are the counts of all its events
pub record IsCounted (j : Job) (counts : Counts) : Type 0 where
  pub events : List Happening
  pub bit : ℕ
  pub tally : Tally
  pub root : Option QName
  pub turns : ℕ
  pub sequence : IsSequence j start.Body stream_bounds events (end.Done bit tally root) turns
  pub counted : AreCounts events counts

-- it ends by this fault
pub record IsWrong (j : Job) (fault : Fault) : Type 0 where
  pub events : List Happening
  pub tally : Tally
  pub root : Option QName
  pub turns : ℕ
  pub sequence : IsSequence j start.Body stream_bounds events (end.Fault fault tally root) turns

-- the counts of a body, or its fault; memory may be refused
abbrev pub IsCountIn : Job → Result Counts Stop → Type 0
IsCountIn j (Ok counts) = IsCounted j counts
IsCountIn j (Err (stop.Fault fault)) = IsWrong j fault
IsCountIn j (Err stop.Memory) = Unit {0}

-- the fault of a header
abbrev pub Refuses : Fault → Result Counts Stop → Type 0
Refuses fault (Ok counts) = ⊥
Refuses fault (Err (stop.Fault found)) = found ≡ fault
Refuses fault (Err stop.Memory) = Unit {0}

abbrev pub IsCountBehind : List ℕ → Result Header Fault → Result Counts Stop → Type 0
IsCountBehind bytes (Ok header) result = IsCountIn (job_of bytes header) result
IsCountBehind bytes (Err fault) result = Refuses fault result

-- the counts of a stream without a schema, which goes by its header's options or by those that hold where it tells none
abbrev pub IsCount : List ℕ → Result Counts Stop → Type 0
IsCount bytes result = IsCountBehind bytes (header_for default_options bytes) result
