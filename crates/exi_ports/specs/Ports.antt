-- What a shelf and a sink tell: their files, the names asked and the bytes taken are known (Some) or not told (None).
use Rattle.std.specs.Prelude.{◌≡◌, ℕ, ◌≤◌, ◌<◌, ◌∷◌, [], List, take, length, Option, Some, None}
use Rattle.std.specs.Str.{bytes_eq}
use Rattle.std.specs.Map.{lookup}
use Rattle.exi_names.specs.Events.{Grows}
use Rattle.exi_ports.specs.declared.shelf.Fetch.{Fetch}
use Rattle.exi_ports.specs.declared.shelf.Fetch.TheVariants as fetch

-- the bytes under a name: those of its first entry
abbrev pub file_at : List (List ℕ × List ℕ) → List ℕ → Option (List ℕ)
file_at files name = lookup (bytes_eq name) files

-- what a fetch may answer where the bytes under the name are known: all of them where they are at most `most`, TooLong
-- where they are more; where there are none, neither
abbrev pub IsAnswer : Option (List ℕ) → ℕ → Fetch → Type 0
IsAnswer file most (fetch.Bytes bytes) = (file ≡ Some bytes) × (length bytes ≤ most)
IsAnswer None most fetch.TooLong = ⊥
IsAnswer (Some bytes) most fetch.TooLong = most < length bytes
IsAnswer file most fetch.Failed = Unit {0}
IsAnswer file most fetch.Memory = Unit {0}

-- bytes are given within what was allowed, also where no file is told
abbrev pub IsWithin : ℕ → Fetch → Type 0
IsWithin most (fetch.Bytes bytes) = length bytes ≤ most
IsWithin most fetch.TooLong = Unit {0}
IsWithin most fetch.Failed = Unit {0}
IsWithin most fetch.Memory = Unit {0}

-- what a fetch may answer, where the files are told
abbrev pub Fetched : Option (List (List ℕ × List ℕ)) → List ℕ → ℕ → Fetch → Type 0
Fetched None name most result = IsWithin most result
Fetched (Some files) name most result = IsAnswer (file_at files name) most result

-- the names asked grow by this one, unless the answer is Memory
abbrev pub Asks : Option (List (List ℕ)) → List ℕ → Fetch → Option (List (List ℕ)) → Type 0
Asks old name fetch.Memory new = new ≡ old
Asks old name (fetch.Bytes bytes) new = Grows old (name ∷ []) new
Asks old name fetch.TooLong new = Grows old (name ∷ []) new
Asks old name fetch.Failed new = Grows old (name ∷ []) new

-- a front of the piece was added, where it is told
abbrev pub GrowsInPart : Option (List ℕ) → List ℕ → Option (List ℕ) → Type 0
GrowsInPart old piece new = (n : ℕ) × (n ≤ length piece) × Grows old (take n piece) new
