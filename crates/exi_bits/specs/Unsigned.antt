-- Unsigned Integers: groups of seven bits in octets, the least significant first (EXI 1.0, section 7.1.6).
-- The recommendation has no bound. Here there are at most 19 octets, and the number is below 2 ^ 128.
use Rattle.std.specs.Prelude.{◌≡◌, Option, Some, None, Result, Ok, Err, nat_lt, if◌then◌else◌, ℕ, zero, suc, ◌+◌, ◌*◌, ◌-◌, ◌^◌, Bool, List, [], ◌∷◌, ◌++◌, ◌⊎◌, ◌<◌, ◌≤◌, ◌/◌, ◌%◌, length}
use Rattle.exi_bits.specs.declared.align.Align.TheVariants as align
use Rattle.exi_bits.specs.declared.align.Align.{Align}
use Rattle.exi_bits.specs.declared.fault.Fault.{Fault}
use Rattle.exi_bits.specs.declared.fault.Stop.{Stop}
use Rattle.exi_bits.specs.declared.fault.Stop.TheVariants as stop
use Rattle.exi_bits.specs.declared.fault.Kind.{Kind}
use Rattle.exi_bits.specs.declared.fault.Kind.TheVariants as kind
use Rattle.exi_bits.specs.Bits.{Spot, bits, number_at}
use Rattle.exi_bits.specs.Widths.{width_for}

-- ---- the spelling
-- the sum of the groups
unfoldable pub group_sum : List ℕ → ℕ
group_sum [] = 0
group_sum (o ∷ os) = o % 128 + 128 * group_sum os

-- at least one octet; all but the last have the top bit
unfoldable pub IsChained : List ℕ → Type 0
IsChained [] = ⊥
IsChained (o ∷ []) = o < 128
IsChained (o ∷ p ∷ os) = (128 ≤ o) × (o < 256) × IsChained (p ∷ os)

-- the octets spell the number
pub record IsUnsigned (octets : List ℕ) (v : ℕ) : Type 0 where
  pub chained : IsChained octets
  pub few : length octets ≤ 19
  pub sum : group_sum octets ≡ v
  pub narrow : v < 2 ^ 128

-- all octets have the top bit
unfoldable pub AllGoOn : List ℕ → Type 0
AllGoOn [] = Unit {0}
AllGoOn (o ∷ os) = (128 ≤ o) × (o < 256) × AllGoOn os

-- the bits end before the number does: fewer than 19 octets, all with the top bit, and less than an octet
pub record IsCut (text : List Bool) : Type 0 where
  pub octets : List ℕ
  pub tail : List Bool
  pub parts : text ≡ bits octets ++ tail
  pub go_on : AllGoOn octets
  pub few : length octets < 19
  pub short : length tail < 8

-- 18 octets with the top bit, and one more that has it too, or that brings the sum to 2 ^ 128
pub record IsWide (text : List Bool) : Type 0 where
  pub first : List ℕ
  pub last : ℕ
  pub more : List Bool
  pub parts : text ≡ bits (first ++ last ∷ []) ++ more
  pub go_on : AllGoOn first
  pub count : length first ≡ 18
  pub octet : last < 256
  pub wide : (128 ≤ last) ⊎ (2 ^ 128 ≤ group_sum (first ++ last ∷ []))

-- the groups of a number, of which so many may come before the last
unfoldable pub groups : ℕ → ℕ → List ℕ
groups zero v = v ∷ []
groups (suc most) v = if nat_lt v 128 then (v ∷ []) else ((v % 128 + 128) ∷ groups most (v / 128))

-- the shortest octets that spell a number below 2 ^ 128
abbrev pub shortest : ℕ → List ℕ
shortest v = groups 18 v

-- ---- the reading
infixl 10 ◌>>=◌
abbrev pub ◌>>=◌ : {A B E : Type 0} → Result A E → (A → Result B E) → Result B E
(Ok x) >>= f = f x
(Err e) >>= f = Err e

-- a number, or Short
abbrev pub needed : {X : Type 0} → Option X → Result X Kind
needed None = Err kind.Short
needed (Some x) = Ok x

-- the octets of a number, of which so many may come
unfoldable pub groups_at : ℕ → Spot → Result (ℕ × Spot) Kind
groups_at zero s = Err kind.TooWide
groups_at (suc most) s = do
  octet ← needed (number_at 8 align.Bits s)
  if nat_lt octet.0 128 then Ok octet else (groups_at most octet.1 >>= λ more. Ok (octet.0 - 128 + 128 * more.0, more.1))

-- a number below 2 ^ 128
abbrev pub narrow : ℕ × Spot → Result (ℕ × Spot) Kind
narrow found = if nat_lt found.0 (2 ^ 128) then Ok found else Err kind.TooWide

-- a fault at the spot
abbrev pub at_spot : {X : Type 0} → Spot → Result X Kind → Result X Fault
at_spot s (Ok x) = Ok x
at_spot s (Err k) = Err (record { kind = k; bit = s.place })

-- an Unsigned Integer and what is after it, or what is wrong with it
unfoldable pub narrow_groups_at : Spot → Result (ℕ × Spot) Kind
narrow_groups_at s = groups_at 19 s >>= narrow

-- the same behind a first octet that goes on
unfoldable pub behind_first : ℕ → Spot → Result (ℕ × Spot) Kind
behind_first first s = groups_at 18 s >>= λ more. narrow (first - 128 + 128 * more.0, more.1)

-- an Unsigned Integer and what is after it, or the fault at its first bit
unfoldable pub unsigned_at : Spot → Result (ℕ × Spot) Fault
unsigned_at s = at_spot s (narrow_groups_at s)

-- an Unsigned Integer of one octet and what is after it; nothing where the bits end before or the octet goes on
unfoldable pub one_octet_at : Spot → Option (ℕ × Spot)
one_octet_at s = short (number_at 8 align.Bits s)
  where
    short : Option (ℕ × Spot) → Option (ℕ × Spot)
    short None = None
    short (Some octet) = if nat_lt octet.0 128 then Some octet else None

-- What was answered and where reading goes on is what reading gives. Nothing moves at a fault.
abbrev pub Reads : {X Y : Type 0} → (X → Y) → Result X Fault → Spot → Spot → Result (Y × Spot) Fault → Type 0
Reads view (Ok x) old new read = read ≡ Ok (view x, new)
Reads view (Err f) old new read = (read ≡ Err f) × (new ≡ old)

-- the same, without where reading is after a fault
abbrev pub ReadsSome : {X Y E : Type 0} → (X → Y) → Result X E → Spot → Result (Y × Spot) E → Type 0
ReadsSome view (Ok x) new read = read ≡ Ok (view x, new)
ReadsSome view (Err e) new read = read ≡ Err e

-- a number of so many bits, or Short
unfoldable pub field_at : ℕ → Align → Spot → Result (ℕ × Spot) Fault
field_at n a s = at_spot s (needed (number_at n a s))

-- that fault, at the spot
abbrev pub fault_at : {X : Type 0} → Kind → Spot → Result X Fault
fault_at k s = Err (record { kind = k; bit = s.place })

-- a number of the width of the count that has to be below it, or the kind at its first bit
unfoldable pub below_at : ℕ → Align → Kind → Spot → Result (ℕ × Spot) Fault
below_at count a k s = do
  found ← field_at (width_for count) a s
  if nat_lt found.0 count then Ok found else fault_at k s

-- the same, where memory may run out
abbrev pub StopsAs : {Y : Type 0} → Stop → Result Y Fault → Type 0
StopsAs stop.Memory read = Unit {0}
StopsAs (stop.Fault f) read = read ≡ Err f

abbrev pub Stops : {X Y : Type 0} → (X → Y) → Result X Stop → Spot → Result (Y × Spot) Fault → Type 0
Stops view (Ok x) new read = read ≡ Ok (view x, new)
Stops view (Err e) new read = StopsAs e read
