-- Event codes (EXI 1.0, section 6.2). In each state of a grammar the productions are told apart by codes
-- of one to three parts. The productions with codes of one part come first, 0, 1 and so on; the next number is
-- the first part of all longer codes. Of these the second parts are 0, 1 and so on, and each tells one production
-- or a group; the members of a group are told apart by a third part.
--
-- A part is an n-bit number, of the fewest bits that tell the values apart that it can have there.
use Rattle.std.specs.Prelude.{◌≢◌, ℕ, suc, ◌+◌, max, Bool, ◌==◌, Option, Some, None, Result, Ok, if◌then◌else◌, List, [], ◌∷◌, ◌++◌, length, map, filter, slice_get, All}
use Rattle.exi_bits.specs.declared.align.Align.{Align}
use Rattle.exi_bits.specs.declared.fault.Fault.{Fault}
use Rattle.exi_bits.specs.declared.fault.Kind.TheVariants as kind
use Rattle.exi_bits.specs.Bits.{Spot, number}
use Rattle.exi_bits.specs.Repeat.{Reader}
use Rattle.exi_bits.specs.Unsigned.{◌>>=◌, below_at, fault_at}
use Rattle.exi_bits.specs.Widths.{width_for}

-- what a second part tells
pub data Second (X : Type 0) : Type 0 where
  single : X → Second X
  group : List X → Second X

-- the productions of a state
pub record Productions (X : Type 0) : Type 0 where
  -- those with codes of one part
  pub firsts : List X
  -- those with longer codes, by the second part
  pub seconds : List (Second X)

-- ---- pruning (section 8.3): what the options switch off is taken away, and the other codes close up
abbrev pub group_unless_empty : {X : Type 0} → List X → List (Second X)
group_unless_empty [] = []
group_unless_empty (x ∷ xs) = group (x ∷ xs) ∷ []

abbrev pub kept_second : {X : Type 0} → (X → Bool) → Second X → List (Second X)
kept_second keep (single x) = if keep x then single x ∷ [] else []
kept_second keep (group xs) = group_unless_empty (filter keep xs)

abbrev pub kept_seconds : {X : Type 0} → (X → Bool) → List (Second X) → List (Second X)
kept_seconds keep [] = []
kept_seconds keep (x ∷ xs) = kept_second keep x ++ kept_seconds keep xs

abbrev pub pruned : {X : Type 0} → (X → Bool) → Productions X → Productions X
pruned keep p = record { firsts = filter keep p.firsts; seconds = kept_seconds keep p.seconds }

-- ---- the codes
-- a production with its code, part by part
pub record Coded (X : Type 0) : Type 0 where
  pub parts : List ℕ
  pub item : X

-- these, with one more part each: the first has this one, and the others go on from it
abbrev pub coded_from : {X : Type 0} → List ℕ → ℕ → List X → List (Coded X)
coded_from front part [] = []
coded_from front part (x ∷ xs) = record { parts = front ++ part ∷ []; item = x } ∷ coded_from front (suc part) xs

abbrev pub coded_second : {X : Type 0} → List ℕ → ℕ → Second X → List (Coded X)
coded_second front part (single x) = record { parts = front ++ part ∷ []; item = x } ∷ []
coded_second front part (group xs) = coded_from (front ++ part ∷ []) 0 xs

abbrev pub coded_seconds : {X : Type 0} → List ℕ → ℕ → List (Second X) → List (Coded X)
coded_seconds front part [] = []
coded_seconds front part (x ∷ xs) = coded_second front part x ++ coded_seconds front (suc part) xs

-- all productions of a state with their codes, in the order of the codes
abbrev pub coded : {X : Type 0} → Productions X → List (Coded X)
coded p = coded_from [] 0 p.firsts ++ coded_seconds (length p.firsts ∷ []) 0 p.seconds

-- ---- the spelling
-- how many values the next part has among codes: one more than the greatest, since the parts leave no gaps
abbrev pub values_after : List ℕ → ℕ
values_after [] = 0
values_after (part ∷ parts) = part + 1

abbrev pub values_of : List (List ℕ) → ℕ
values_of [] = 0
values_of (code ∷ codes) = max (values_after code) (values_of codes)

-- what is left of the codes that begin with a part
abbrev going : ℕ → List ℕ → List (List ℕ) → List (List ℕ)
going part [] codes = codes
going part (first ∷ parts) codes = if part == first then parts ∷ codes else codes

abbrev pub going_on : ℕ → List (List ℕ) → List (List ℕ)
going_on part [] = []
going_on part (code ∷ codes) = going part code (going_on part codes)

-- the bits of a code among codes: part by part, each a number in the bits that the values need which it has
-- behind the parts before it
unfoldable pub code_bits : Align → List (List ℕ) → List ℕ → List Bool
code_bits a codes [] = []
code_bits a codes (part ∷ parts) = number (width_for (values_of codes)) a part ++ code_bits a (going_on part codes) parts

-- ---- the reading
-- a part that has so many values, or NoCode at its first bit
unfoldable pub part_at : ℕ → Align → Reader ℕ
part_at count a s = below_at count a kind.NoCode s

-- how many values the first part has: one for each code of one part, and one for all longer ones
abbrev pub longer : {X : Type 0} → List (Second X) → ℕ
longer [] = 0
longer (x ∷ xs) = 1

abbrev pub first_values : {X : Type 0} → Productions X → ℕ
first_values p = length p.firsts + longer p.seconds

-- what a part told; it always tells one, since it is below the count
abbrev pub told : {X : Type 0} → Option X → Spot → Result (X × Spot) Fault
told (Some x) s = Ok (x, s)
told None s = fault_at kind.NoCode s

unfoldable pub member_at : {X : Type 0} → Align → List X → Reader X
member_at a xs s = do
  third ← part_at (length xs) a s
  told (slice_get xs third.0) third.1

abbrev pub second_told : {X : Type 0} → Align → Option (Second X) → Reader X
second_told a None s = fault_at kind.NoCode s
second_told a (Some (single x)) s = Ok (x, s)
second_told a (Some (group xs)) s = member_at a xs s

unfoldable pub second_at : {X : Type 0} → Align → List (Second X) → Reader X
second_at a xs s = do
  second ← part_at (length xs) a s
  second_told a (slice_get xs second.0) second.1

abbrev pub first_told : {X : Type 0} → Align → List (Second X) → Option X → Reader X
first_told a seconds (Some x) s = Ok (x, s)
first_told a seconds None s = second_at a seconds s

-- the production whose code comes next
unfoldable pub code_at : {X : Type 0} → Align → Productions X → Reader X
code_at a p s = do
  first ← part_at (first_values p) a s
  first_told a p.seconds (slice_get p.firsts first.0) first.1

-- ---- other things in the productions' place
abbrev pub mapped_second : {X Y : Type 0} → (X → Y) → Second X → Second Y
mapped_second f (single x) = single (f x)
mapped_second f (group xs) = group (map f xs)

abbrev pub mapped : {X Y : Type 0} → (X → Y) → Productions X → Productions Y
mapped f p = record { firsts = map f p.firsts; seconds = map (mapped_second f) p.seconds }

-- no group is empty, as pruning leaves it
abbrev pub HasMembers : {X : Type 0} → Second X → Type 0
HasMembers (single x) = Unit {0}
HasMembers (group xs) = xs ≢ []

abbrev pub IsClosedUp : {X : Type 0} → Productions X → Type 0
IsClosedUp p = All HasMembers p.seconds
