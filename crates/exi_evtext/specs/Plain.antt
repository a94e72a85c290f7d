-- Texts that are plain: each of their bytes is ASCII and stands for itself between quotes.
use Rattle.std.specs.Prelude.{◌≡◌, ◌+◌, ◌≤◌, ◌<◌, ◌==◌, ◌&&◌, not, nat_le, nat_lt, ℕ, Bool, true, false, List, length, ◌++◌, None, take, drop, slice_index, encode_utf8_all, if◌then◌else◌}
use Rattle.std.specs.Str.{IsAscii, IsUtf8}
use Rattle.std.specs.List.{flat_map}
use Rattle.std.specs.Int.{w64, trailing_zeros}
use Rattle.exi_names.specs.declared.names.QName.{QName}
use Rattle.exi_names.specs.Characters.{are_plain}
use Rattle.exi_names.specs.Events.{Happening}
use Rattle.exi_evtext.specs.Lines.{escaped, line_of}
use Rattle.exi_evtext.specs.Parsing.{stops_run}
use Rattle.exi_evtext.specs.Spelling.{IsEvent, IsText}

-- ASCII from the space on, but for a quote, a backslash and the last, which no text needs
abbrev pub is_plain : ℕ → Bool
is_plain b = nat_le 32 b && nat_lt b 127 && not (b == 34) && not (b == 92)

-- the bytes from one place up to another pass the test
abbrev pub AllPass : (ℕ → Bool) → List ℕ → ℕ → ℕ → Type 0
AllPass test bytes from to = (k : ℕ) → from ≤ k → k < to → test (slice_index bytes k) ≡ true

-- the first of so many bytes from a place on pass the test
abbrev pub PassesIn : (ℕ → Bool) → List ℕ → ℕ → ℕ → ℕ → Type 0
PassesIn test bytes at count run = (run ≤ count) × AllPass test bytes at (at + run)

-- and the next one of them fails it
abbrev pub IsRunIn : (ℕ → Bool) → List ℕ → ℕ → ℕ → ℕ → Type 0
IsRunIn test bytes at count run = PassesIn test bytes at count run × (run < count → test (slice_index bytes (at + run)) ≡ false)

-- so many bytes in front pass the test, and the next one fails it
pub record IsWidth (test : ℕ → Bool) (bytes : List ℕ) (width : ℕ) : Type 0 where
  pub within : width ≤ length bytes
  pub pass : AllPass test bytes 0 width
  pub stops : width < length bytes → test (slice_index bytes width) ≡ false

-- no line feed, and what stands for itself between quotes
abbrev pub is_inside_line : ℕ → Bool
is_inside_line b = not (b == 10)

abbrev pub is_inside_run : ℕ → Bool
is_inside_run b = not (stops_run b)

-- so many bytes from a place on are UTF-8 that stands for itself between quotes
pub record IsTextIn (bytes : List ℕ) (at width : ℕ) : Type 0 where
  pub within : at + width ≤ length bytes
  pub utf8 : IsUtf8 (take width (drop at bytes))
  pub pass : AllPass is_inside_run bytes at (at + width)

-- and so many in front
pub record IsTextFront (bytes : List ℕ) (width : ℕ) : Type 0 where
  pub within : width ≤ length bytes
  pub utf8 : IsUtf8 (take width bytes)
  pub pass : AllPass is_inside_run bytes 0 width

-- the place of the lowest bit that is set, or how many bits are looked at
abbrev pub first_set : ℕ → ℕ → ℕ
first_set mask count = if mask == 0 then count else trailing_zeros w64 mask

-- its bytes are its characters, which a line spells as they are
pub record IsPlain (text : List ℕ) : Type 0 where
  pub ascii : IsAscii text
  pub plain : are_plain text ≡ true
  pub valid : IsText text
  pub stands : flat_map escaped (encode_utf8_all text) ≡ text

-- a name without a prefix
abbrev pub plain_name : List ℕ → List ℕ → QName
plain_name uri local = record { uri = uri; local = local; prefix = None }

-- the bytes begin with the line of an event
pub record IsLine (bytes : List ℕ) (e : Happening) (behind : List ℕ) : Type 0 where
  pub said : IsEvent e
  pub parts : bytes ≡ line_of e ++ behind
