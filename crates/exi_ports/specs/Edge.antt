-- The edge to the system: reading a source to its end, and gathering pieces before a writer, where the bytes behind
-- them are known; and the counts of faults.
use Rattle.std.specs.Prelude.{◌≡◌, ℕ, ◌≤◌, ◌<◌, List, length, take, drop, Option, Some, None, IfSome, Bool, true, false, Result, Ok, Err}
use Rattle.std.specs.Io.KnownBytes.{Appends, Keeps}
use Rattle.exi_ports.specs.Memory.{raised}
use Rattle.exi_ports.specs.declared.shelf.Fetch.{Fetch}
use Rattle.exi_ports.specs.declared.shelf.Fetch.TheVariants as fetch
use Rattle.exi_ports.specs.declared.sink.SinkStop.{SinkStop}
use Rattle.exi_ports.specs.declared.sink.SinkStop.TheVariants as stop

-- what may be answered of a source: all the bytes that it has left, or that these are more than `most`
abbrev pub Reads : Option (List ℕ) → ℕ → Fetch → Type 0
Reads left most (fetch.Bytes bytes) = Keeps left (Some bytes) × (length bytes ≤ most)
Reads left most fetch.TooLong = IfSome left (λ bytes. most < length bytes)
Reads left most fetch.Failed = Unit {0}
Reads left most fetch.Memory = Unit {0}

-- a count of faults rises at Failed and stands still else
abbrev pub faults_after_fetch : ℕ → Fetch → ℕ
faults_after_fetch faults (fetch.Bytes bytes) = faults
faults_after_fetch faults fetch.TooLong = faults
faults_after_fetch faults fetch.Failed = raised faults
faults_after_fetch faults fetch.Memory = faults

-- all of the piece was taken where the answer is true, and else a front of it
abbrev pub TakesPiece : Option (List ℕ) → Option (List ℕ) → List ℕ → Bool → Type 0
TakesPiece old new piece true = Appends old new piece
TakesPiece old new piece false = (n : ℕ) × (n ≤ length piece) × Appends old new (take n piece)

-- a count of faults rises at Failed and stands still else
abbrev pub faults_after_put : ℕ → Result Unit SinkStop → ℕ
faults_after_put faults (Ok done) = faults
faults_after_put faults (Err stop.Failed) = raised faults
faults_after_put faults (Err stop.Memory) = faults

-- the end of a list, from some place on
abbrev pub IsRest : List ℕ → List ℕ → Type 0
IsRest rest whole = (n : ℕ) × (rest ≡ drop n whole)

-- a sink over the standard output: the bytes that wait, and a count
pub record OutState : Type 0 where
  pub waiting : List ℕ
  pub faults : ℕ

-- the bytes that a sink took, where it does not tell them
abbrev pub untold : Option (List ℕ)
untold = None
