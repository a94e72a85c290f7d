-- Event codes as a tree (EXI 1.0, section 6.2): a code is read part by part, in whatever order the codes stand.
use Rattle.std.specs.Prelude.{◌≡◌, ◌≢◌, ℕ, zero, suc, ◌<◌, Bool, true, false, ◌==◌, Option, Some, None, Result, Ok, if◌then◌else◌, List, [], ◌∷◌, All, map}
use Rattle.exi_bits.specs.declared.align.Align.{Align}
use Rattle.exi_bits.specs.declared.fault.Fault.{Fault}
use Rattle.exi_bits.specs.Bits.{Spot}
use Rattle.exi_bits.specs.Repeat.{Reader}
use Rattle.exi_bits.specs.Unsigned.{◌>>=◌}
use Rattle.exi_gram.specs.Codes.{Coded, IsClosedUp, Productions, code_at, coded, going_on, part_at, told, values_of}
use Rattle.exi_gram.specs.Laws.{codes, placed}

-- ---- codes that a tree can hold
-- neither is the front of the other, nor are they the same
abbrev pub go_apart : List ℕ → List ℕ → Bool
go_apart [] other = false
go_apart (part ∷ parts) [] = false
go_apart (part ∷ parts) (first ∷ others) = if part == first then go_apart parts others else true

abbrev pub AllApart : List (List ℕ) → Type 0
AllApart [] = Unit {0}
AllApart (code ∷ codes) = All (λ other. go_apart code other ≡ true) codes × AllApart codes

-- what is left of the codes that begin with these parts
abbrev pub going_along : List ℕ → List (List ℕ) → List (List ℕ)
going_along [] codes = codes
going_along (part ∷ parts) codes = going_along parts (going_on part codes)

-- The codes are distinct, and none is the front of another. After any first parts, each value below the number of those
-- that the next part can have is one with which a code goes on.
pub record IsCodeSet (codes : List (List ℕ)) : Type 0 where
  pub apart : AllApart codes
  pub no_gaps : (front : List ℕ) (part : ℕ) → part < values_of (going_along front codes) → going_on part (going_along front codes) ≢ []

-- ---- the reading
-- what is left of a code behind these parts, where it begins with them
abbrev pub along : List ℕ → List ℕ → Option (List ℕ)
along [] parts = Some parts
along (first ∷ front) [] = None
along (first ∷ front) (part ∷ parts) = if first == part then along front parts else None

abbrev pub left_with : {X : Type 0} → Option (List ℕ) → X → List (Coded X) → List (Coded X)
left_with None item others = others
left_with (Some parts) item others = record { parts = parts; item = item } ∷ others

-- the codes that begin with these parts, without them
abbrev pub behind : {X : Type 0} → List ℕ → List (Coded X) → List (Coded X)
behind front [] = []
behind front (c ∷ cs) = left_with (along front c.parts) c.item (behind front cs)

abbrev pub parts_in : {X : Type 0} → List (Coded X) → List (List ℕ)
parts_in cs = map (λ c. c.parts) cs

-- what is told by a code that has ended
abbrev pub told_by : {X : Type 0} → List ℕ → X → Option X → Option X
told_by parts item (Some other) = Some other
told_by [] item None = Some item
told_by (part ∷ parts) item None = None

abbrev pub ended : {X : Type 0} → List (Coded X) → Option X
ended [] = None
ended (c ∷ cs) = told_by c.parts c.item (ended cs)

-- it is told, or reading goes on
abbrev pub told_or : {X : Type 0} → Option X → Spot → Result (X × Spot) Fault → Result (X × Spot) Fault
told_or (Some x) s more = Ok (x, s)
told_or None s more = more

-- What is told by the code that stands here, which has so many parts at most: where none of the codes has ended the next
-- part is read, which has as many values as they need, and it leaves those that go on with it.
unfoldable pub chosen_at : {X : Type 0} → ℕ → Align → List (Coded X) → Reader X
chosen_at zero a cs s = told (ended cs) s
chosen_at (suc more) a cs s = told_or (ended cs) s (do
  part ← part_at (values_of (parts_in cs)) a s
  chosen_at more a (behind (part.0 ∷ []) cs) part.1)

-- the codes with their places from one on
abbrev pub counted : ℕ → List (List ℕ) → List (Coded ℕ)
counted place [] = []
counted place (code ∷ codes) = record { parts = code; item = place } ∷ counted (suc place) codes

-- the place of the code that stands here
abbrev pub place_read : Align → List (List ℕ) → Reader ℕ
place_read a codes s = chosen_at 3 a (counted 0 codes) s

-- ---- laws
-- a code of a state is read part by part as the codes of the state go on, so each fault is that of the first part that
-- has none of its values, or whose bits are not there
abbrev pub CodeIsChosen : Type 0 → Type 0
CodeIsChosen X = (p : Productions X) → IsClosedUp p → (a : Align) (s : Spot) → code_at a p s ≡ chosen_at 3 a (coded p) s

-- with places for productions it tells the place of the code in the list of the codes
abbrev pub PlaceIsRead : Type 0 → Type 0
PlaceIsRead X = (p : Productions X) → IsClosedUp p → (a : Align) (s : Spot) → code_at a (placed p) s ≡ place_read a (codes p) s

-- the codes of a state are such a set
abbrev pub StateIsCodeSet : Type 0 → Type 0
StateIsCodeSet X = (p : Productions X) → IsClosedUp p → IsCodeSet (codes p)
