-- The shelf and the sink in memory: at which call they fail, and what a call leaves.
use Rattle.std.specs.Prelude.{◌≡◌, ℕ, ◌+◌, ◌-◌, ◌/◌, ◌^◌, ◌++◌, ◌∷◌, [], List, length, min, take, Contains, Result, Ok, Err, ◌⊎◌, None}
use Rattle.exi_ports.specs.Ports.{file_at}
use Rattle.exi_ports.specs.declared.shelf.Fetch.{Fetch}
use Rattle.exi_ports.specs.declared.shelf.Fetch.TheVariants as fetch
use Rattle.exi_ports.specs.declared.sink.SinkStop.{SinkStop}
use Rattle.exi_ports.specs.declared.sink.SinkStop.TheVariants as stop

-- one more, but never above the last number of 64 bits
abbrev pub raised : ℕ → ℕ
raised count = min (count + 1) (2 ^ 64 - 1)

-- the call after `calls` calls, counted from 1, is one of those that are to fail
abbrev pub IsNextToFail : List ℕ → ℕ → Type 0
IsNextToFail fail calls = Contains fail (raised calls)

-- a shelf in memory: its files in order, the names asked so far, the calls that are to fail, and two counts
pub record ShelfState : Type 0 where
  pub files : List (List ℕ × List ℕ)
  pub asked : List (List ℕ)
  pub fail : List ℕ
  pub calls : ℕ
  pub faults : ℕ

-- a fetch of this name fails: its call is to fail, or no file has the name
abbrev pub IsFault : ShelfState → List ℕ → Type 0
IsFault s name = IsNextToFail s.fail s.calls ⊎ (file_at s.files name ≡ None)

-- what the shelf is after a fetch that answered so
abbrev pub after_fetch : ShelfState → List ℕ → Fetch → ShelfState
after_fetch s name (fetch.Bytes bytes) = record s { asked = s.asked ++ name ∷ []; calls = raised s.calls }
after_fetch s name fetch.TooLong = record s { asked = s.asked ++ name ∷ []; calls = raised s.calls }
after_fetch s name fetch.Failed = record s { asked = s.asked ++ name ∷ []; calls = raised s.calls; faults = raised s.faults }
after_fetch s name fetch.Memory = s

-- a fetch answers Failed at a fault and nowhere else; only Memory is free
abbrev pub FailsAt : (fault : Type 0) → Fetch → Type 0
FailsAt fault (fetch.Bytes bytes) = ¬ fault
FailsAt fault fetch.TooLong = ¬ fault
FailsAt fault fetch.Failed = fault
FailsAt fault fetch.Memory = Unit {0}

-- a sink in memory: the bytes taken, the calls that are to fail, and two counts
pub record SinkState : Type 0 where
  pub taken : List ℕ
  pub fail : List ℕ
  pub calls : ℕ
  pub faults : ℕ

-- what the sink is after a put of this piece that answered so: at a failure the first half was taken, rounded down
abbrev pub after_put : SinkState → List ℕ → Result Unit SinkStop → SinkState
after_put s piece (Ok done) = record s { taken = s.taken ++ piece; calls = raised s.calls }
after_put s piece (Err stop.Failed) = record s { taken = s.taken ++ take (length piece / 2) piece; calls = raised s.calls; faults = raised s.faults }
after_put s piece (Err stop.Memory) = s
