-- The codes of a state as they are kept: the productions in the order of their codes, how many have codes of one
-- part, and for each second part where its productions begin and how many they are.
use Rattle.std.specs.Prelude.{◌≡◌, ℕ, ◌+◌, ◌-◌, ◌<◌, ◌≤◌, ◌^◌, Bool, true, false, List, [], ◌∷◌, ◌++◌, length, map, take, drop, get_or, if◌then◌else◌}
use Rattle.exi_bits.specs.declared.align.Align.{Align}
use Rattle.exi_bits.specs.Bits.{number}
use Rattle.exi_bits.specs.Widths.{width_for}
use Rattle.exi_gram.specs.declared.code.Code.{Code}
use Rattle.exi_gram.specs.declared.code.Code.TheVariants as code
use Rattle.exi_gram.specs.declared.code.Coded.{Coded as Kept}
use Rattle.exi_gram.specs.declared.second.SecondPart.{SecondPart}
use Rattle.exi_gram.specs.Codes.{Coded, Productions, Second, coded, group, single}
use Rattle.exi_gram.specs.Naming.{Entry}
use Rattle.exi_gram.specs.Terminals.{rule}

-- ---- a code and its parts
abbrev pub parts_of : Code → List ℕ
parts_of (code.One first) = first ∷ []
parts_of (code.Two first second) = first ∷ second ∷ []
parts_of (code.Three first second third) = first ∷ second ∷ third ∷ []

-- the production that is kept with a code, and with the places of what it names
abbrev pub kept_entry : Kept → Entry
kept_entry c = record { rule = rule c.production; named = c.named }

-- a production with its code, part by part
abbrev pub coded_of : Kept → Coded Entry
coded_of c = record { parts = parts_of c.code; item = kept_entry c }

abbrev pub items_of : List Kept → List Entry
items_of cs = map kept_entry cs

-- ---- the productions that are kept
abbrev pub as_single : {X : Type 0} → List X → Second X
as_single [] = group []
as_single (x ∷ xs) = single x

abbrev pub slice : {X : Type 0} → List X → SecondPart → List X
slice xs s = take s.count (drop s.begin xs)

-- what a second part tells
abbrev pub second_of : {X : Type 0} → List X → SecondPart → Second X
second_of xs s = if s.group then group (slice xs s) else as_single (slice xs s)

abbrev pub table_of : {X : Type 0} → List X → ℕ → List SecondPart → Productions X
table_of xs firsts seconds = record { firsts = take firsts xs; seconds = map (second_of xs) seconds }

-- the second parts stand directly one behind the other, from a place up to the end
abbrev pub Follow : ℕ → List SecondPart → ℕ → Type 0
Follow place [] end = place ≡ end
Follow place (s ∷ ss) end = (s.begin ≡ place) × (1 ≤ s.count) × (s.group ≡ false → s.count ≡ 1) × Follow (place + s.count) ss end

-- how many productions a state can have: one number of 32 bits is left for the first part of longer codes
abbrev pub most_productions : ℕ
most_productions = 2 ^ 32 - 2

-- what holds of the codes that are kept
pub record IsTable (cs : List Kept) (firsts : ℕ) (seconds : List SecondPart) : Type 0 where
  pub small : length cs ≤ most_productions
  pub follow : Follow firsts seconds (length cs)
  pub codes : map coded_of cs ≡ coded (table_of (items_of cs) firsts seconds)

-- ---- how productions are added
-- how many there are
abbrev pub size : {X : Type 0} → Productions X → ℕ
size p = length (coded p)

abbrev pub no_productions : {X : Type 0} → Productions X
no_productions = record { firsts = []; seconds = [] }

-- one with a code of one part, where there are no longer codes yet
abbrev pub with_first : {X : Type 0} → Productions X → X → Productions X
with_first p x = record p { firsts = p.firsts ++ x ∷ [] }

-- one that the next second part tells
abbrev pub with_second : {X : Type 0} → Productions X → Second X → Productions X
with_second p x = record p { seconds = p.seconds ++ x ∷ [] }

-- more of either, one behind the other
abbrev pub with_firsts : {X : Type 0} → Productions X → List X → Productions X
with_firsts p xs = record p { firsts = p.firsts ++ xs }

abbrev pub with_seconds : {X : Type 0} → Productions X → List (Second X) → Productions X
with_seconds p xs = record p { seconds = p.seconds ++ xs }

-- one that joins the group of the last second part
abbrev joined : {X : Type 0} → Second X → X → Second X
joined (single y) x = single y
joined (group ys) x = group (ys ++ x ∷ [])

abbrev pub last_joined : {X : Type 0} → List (Second X) → X → List (Second X)
last_joined [] x = []
last_joined (y ∷ []) x = joined y x ∷ []
last_joined (y ∷ z ∷ zs) x = y ∷ last_joined (z ∷ zs) x

abbrev pub with_member : {X : Type 0} → Productions X → X → Productions X
with_member p x = record p { seconds = last_joined p.seconds x }

abbrev is_group : {X : Type 0} → Second X → Bool
is_group (single x) = false
is_group (group xs) = true

-- whether the last second part tells a group
abbrev pub ends_in_group : {X : Type 0} → List (Second X) → Bool
ends_in_group [] = false
ends_in_group (y ∷ []) = is_group y
ends_in_group (y ∷ z ∷ zs) = ends_in_group (z ∷ zs)

-- the code of the production at a place
abbrev pub parts_at : {X : Type 0} → Productions X → ℕ → List ℕ
parts_at p place = get_or (map (λ c. c.parts) (coded p)) place []

-- ---- the bits of a code that is kept
-- how many values a first part has
abbrev pub first_count : ℕ → List SecondPart → ℕ
first_count firsts [] = firsts
first_count firsts (s ∷ ss) = firsts + 1

abbrev pub count_at : List SecondPart → ℕ → ℕ
count_at ss second = (get_or ss second (record { begin = 0; count = 0; group = false })).count

abbrev pub kept_bits : Align → ℕ → List SecondPart → Code → List Bool
kept_bits a firsts ss (code.One first) = number (width_for (first_count firsts ss)) a first
kept_bits a firsts ss (code.Two first second) = number (width_for (first_count firsts ss)) a first ++ number (width_for (length ss)) a second
kept_bits a firsts ss (code.Three first second third) =
    number (width_for (first_count firsts ss)) a first ++ (number (width_for (length ss)) a second ++ number (width_for (count_at ss second)) a third)

-- the parts of the code are among the values that they can have
abbrev pub CodeFits : ℕ → List SecondPart → Code → Type 0
CodeFits firsts ss (code.One first) = first < first_count firsts ss
CodeFits firsts ss (code.Two first second) = (first < first_count firsts ss) × (second < length ss)
CodeFits firsts ss (code.Three first second third) = (first < first_count firsts ss) × (second < length ss) × (third < count_at ss second)
