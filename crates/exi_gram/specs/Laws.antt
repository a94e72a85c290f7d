-- The laws of event codes: what is read is spelled so, and what is spelled so is read. They speak of the productions
-- of a state in which no group is empty, as pruning leaves them.
use Rattle.std.specs.Prelude.{◌≡◌, ℕ, zero, suc, ◌+◌, ◌≤◌, ◌⊎◌, Bool, true, false, Some, Result, Ok, Err, if◌then◌else◌, List, [], ◌∷◌, ◌++◌, length, map, slice_get}
use Rattle.exi_bits.specs.declared.align.Align.{Align}
use Rattle.exi_bits.specs.declared.fault.Fault.{Fault}
use Rattle.exi_bits.specs.Bits.{Spot}
use Rattle.exi_bits.specs.Repeat.{Reader}
use Rattle.exi_bits.specs.Unsigned.{◌>>=◌}
use Rattle.exi_items.specs.Laws.{ReadIsSpelled, SpelledIsRead}
use Rattle.exi_gram.specs.Codes.{Coded, IsClosedUp, Productions, Second, code_at, code_bits, coded, going_on, group, mapped, part_at, pruned, single, values_of}

-- all codes of a state, in their order
abbrev pub codes : {X : Type 0} → Productions X → List (List ℕ)
codes p = map (λ c. c.parts) (coded p)

-- the bits of a production's code, where it stands among the codes of the state
pub record SpellsCode {X : Type 0} (p : Productions X) (a : Align) (x : X) (text : List Bool) : Type 0 where
  pub place : ℕ
  pub parts : List ℕ
  pub there : slice_get (coded p) place ≡ Some (record { parts = parts; item = x })
  pub bits : text ≡ code_bits a (codes p) parts

-- the production that is read has a code of the state, and its bits were taken
abbrev pub CodeIsSpelled : Type 0 → Type 0
CodeIsSpelled X = (p : Productions X) → IsClosedUp p → ReadIsSpelled (SpellsCode p) (λ a. code_at a p)

-- the bits of a code tell its production, whatever follows
abbrev pub CodeIsRead : Type 0 → Type 0
CodeIsRead X = (p : Productions X) → IsClosedUp p → SpelledIsRead (SpellsCode p) (λ a. code_at a p)

-- no code's bits are a proper prefix of another's in the same state, and equal bits are of one code
abbrev pub CodeIsNoPrefix : Type 0 → Type 0
CodeIsNoPrefix X = (p : Productions X) → IsClosedUp p → (a : Align) (i j : ℕ) (c d : Coded X) (more : List Bool) → slice_get (coded p) i ≡ Some c → slice_get (coded p) j ≡ Some d → code_bits a (codes p) c.parts ≡ code_bits a (codes p) d.parts ++ more → (i ≡ j) × (c ≡ d) × (more ≡ [])

-- ---- a code, part by part
-- one of the codes has ended
abbrev pub is_told : List (List ℕ) → Bool
is_told [] = false
is_told ([] ∷ codes) = true
is_told ((part ∷ parts) ∷ codes) = is_told codes

-- so many parts at most, up to the end of one of the codes: each part has as many values as these codes have in its
-- place, and it leaves those that go on so
unfoldable pub parts_read : ℕ → Align → List (List ℕ) → Reader (List ℕ)
parts_read zero a codes s = Ok ([], s)
parts_read (suc more) a codes s = if is_told codes then Ok ([], s) else (do
  part ← part_at (values_of codes) a s
  others ← parts_read more a (going_on part.0 codes) part.1
  Ok (part.0 ∷ others.0, others.1))

-- where reading goes on, or the fault
abbrev pub ends : {X : Type 0} → Result (X × Spot) Fault → Result Spot Fault
ends (Ok x) = Ok x.1
ends (Err f) = Err f

-- a code is read part by part as the codes of the state go on, so each fault is that of the first part that has none of
-- its values, or whose bits are not there
abbrev pub CodeIsParts : Type 0 → Type 0
CodeIsParts X = (p : Productions X) → IsClosedUp p → (a : Align) (s : Spot) → ends (code_at a p s) ≡ ends (parts_read 3 a (codes p) s)

-- ---- what a code tells
abbrev pub StandsIn : {X : Type 0} → Second X → X → Type 0
StandsIn (single y) x = y ≡ x
StandsIn (group ys) x = (place : ℕ) × (slice_get ys place ≡ Some x)

-- it is one of the productions of a state
abbrev pub IsOneOf : {X : Type 0} → Productions X → X → Type 0
IsOneOf {X} p x =
    ((place : ℕ) × (slice_get p.firsts place ≡ Some x))
    ⊎ ((place : ℕ) × (y : Second X) × (slice_get p.seconds place ≡ Some y) × StandsIn y x)

-- what a code tells is one of the state's productions
abbrev pub CodeIsOfState : Type 0 → Type 0
CodeIsOfState X = (p : Productions X) (a : Align) (s t : Spot) (x : X) → code_at a p s ≡ Ok (x, t) → IsOneOf p x

-- reading a code stays in the same bytes, and does not go back
abbrev pub CodeGoesOn : Type 0 → Type 0
CodeGoesOn X = (p : Productions X) (a : Align) (s t : Spot) (x : X) → code_at a p s ≡ Ok (x, t) → (t.bytes ≡ s.bytes) × (s.place ≤ t.place)

-- pruning leaves no group empty
abbrev pub PrunedIsClosedUp : Type 0 → Type 0
PrunedIsClosedUp X = (keep : X → Bool) (p : Productions X) → IsClosedUp (pruned keep p)

-- ---- other things in the productions' place
-- what is read in their place is what stands for the production that is read
abbrev pub MappedIsRead : Type 0 → Type 0 → Type 0
MappedIsRead X Y = (f : X → Y) (p : Productions X) (a : Align) (s : Spot) → code_at a (mapped f p) s ≡ (code_at a p s >>= λ x. Ok (f x.0, x.1))

-- numbers from one on in the place of things
abbrev pub places_from : {X : Type 0} → ℕ → List X → List ℕ
places_from place [] = []
places_from place (x ∷ xs) = place ∷ places_from (suc place) xs

abbrev pub placed_second : {X : Type 0} → ℕ → Second X → Second ℕ
placed_second place (single x) = single place
placed_second place (group xs) = group (places_from place xs)

-- how many productions a second part tells
abbrev pub members : {X : Type 0} → Second X → ℕ
members (single x) = 1
members (group xs) = length xs

abbrev pub placed_seconds : {X : Type 0} → ℕ → List (Second X) → List (Second ℕ)
placed_seconds place [] = []
placed_seconds place (x ∷ xs) = placed_second place x ∷ placed_seconds (place + members x) xs

-- in the place of each production its place in the order of the codes
abbrev pub placed : {X : Type 0} → Productions X → Productions ℕ
placed p = record { firsts = places_from 0 p.firsts; seconds = placed_seconds (length p.firsts) p.seconds }

abbrev pub numbered : {X : Type 0} → ℕ → List (Coded X) → List (Coded ℕ)
numbered place [] = []
numbered place (c ∷ cs) = record { parts = c.parts; item = place } ∷ numbered (suc place) cs

-- the codes stay, and what they tell are their places
abbrev pub PlacedIsNumbered : Type 0 → Type 0
PlacedIsNumbered X = (p : Productions X) → coded (placed p) ≡ numbered 0 (coded p)
