-- The offsets of a board here.
use Rattle.std.specs.Prelude.{◌≡◌, ℕ, ◌+◌, ◌*◌, ◌<◌, List, length, slice_index}

-- hint i has the offset 5 i + 3
abbrev pub AreOffsets : List ℕ → Type 0
AreOffsets xs = (i : ℕ) → i < length xs → slice_index xs i ≡ i * 5 + 3
