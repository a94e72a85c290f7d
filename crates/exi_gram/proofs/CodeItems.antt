-- The reading of a code as the reading of its parts, one behind the other.
use Rattle.std.proofs.Common.{◌≡◌, ℕ, zero, suc, ◌+◌, ◌^◌, ◌<◌, ◌≤◌, ◌⊎◌, inl, inr, Bool, true, false, ltb, lit<, lt-ltb, ltb-true, leb, leb-true, List, [], ◌++◌, length, slice_get, Option, Some, None, Result, Ok, Err, refl, ap, ◌∙◌, subst, arith}
use Rattle.std.proofs.Math.Nat.{pow-succ'}
use Rattle.exi_bits.specs.declared.align.Align.{Align}
use Rattle.exi_bits.specs.declared.align.Align.TheVariants as align
use Rattle.exi_bits.specs.declared.fault.Fault.{Fault}
use Rattle.exi_bits.specs.declared.fault.Kind.TheVariants as kind
use Rattle.exi_bits.specs.Bits.{Spot, IsAligned, IsBytes, moved, number, rest, taken}
use Rattle.exi_bits.specs.Repeat.{Reader}
use Rattle.exi_bits.specs.Unsigned.{◌>>=◌, fault_at}
use Rattle.exi_bits.specs.Widths.{width_for, width_from}
use Rattle.exi_bits.proofs.BitLaws.{pow_up}
use Rattle.exi_items.specs.Spellings.{Made, Then}
use Rattle.exi_items.proofs.Items.{Item, Taken, given, item_below, item_for, item_made, item_same, item_spelled, ok_is}
use Rattle.exi_gram.specs.Codes.{Productions, Second, code_at, first_told, first_values, group, member_at, part_at, second_at, second_told, single, told}

-- ---- what is below a count fits its bits
leb_cases : (b : Bool) → (b ≡ true) ⊎ (b ≡ false)
leb_cases true = inl refl
leb_cases false = inr refl

width_holds : (tries n count : ℕ) → count ≤ 2 ^ (n + tries) → count ≤ 2 ^ width_from tries n count
unfolding width_from
width_holds zero n count h = let e : n + 0 ≡ n = omega arith in subst (λ (k : ℕ). count ≤ 2 ^ k) e h
width_holds (suc tries) n count h = elim (leb_cases (leb count (2 ^ n))) [
  | inl holds ↦ rw holds (leb-true count (2 ^ n) holds)
  | inr fails ↦ let e : n + suc tries ≡ n + 1 + tries = omega arith in rw fails (width_holds tries (n + 1) count (subst (λ (k : ℕ). count ≤ 2 ^ k) e h))
]

below_power : (n : ℕ) → n < 2 ^ n
below_power zero = lit< tt
below_power (suc n) = let h = below_power n in rw pow-succ' (omega arith)

below_sum : (n : ℕ) → n ≤ 2 ^ (0 + n)
below_sum n = let e : 0 + n ≡ n = omega arith in let h = below_power n in rw e (omega arith)

width_taken : (n : ℕ) (a : Align) → n ≤ taken n a
width_taken n align.Bits = omega arith
width_taken n align.Bytes = omega arith

pub below_width : (v count : ℕ) → v < count → v < 2 ^ width_for count
below_width v count less =
    let h : count ≤ 2 ^ (0 + count) = below_sum count in
    let w = width_holds count 0 count h in
    omega arith

pub below_fits : (v count : ℕ) (a : Align) → v < count → v < 2 ^ taken (width_for count) a
below_fits v count a less =
    let h : count ≤ 2 ^ (0 + count) = below_sum count in
    let w = width_holds count 0 count h in
    let p = pow_up (width_for count) (taken (width_for count) a) (width_taken (width_for count) a) in
    omega arith

-- ---- a part
abbrev pub PartText : ℕ → Align → ℕ → List Bool → Type 0
PartText count a v text = (v < count) × (text ≡ number (width_for count) a v)

part_item : (count : ℕ) (a : Align) → Item a (part_at count a) (PartText count a)
unfolding part_at
part_item count a = item_spelled a (part_at count a) (λ v text. (ltb v count ≡ true) × ((text ≡ number (width_for count) a v) × (v < 2 ^ taken (width_for count) a))) (PartText count a)
    (λ v text m. (ltb-true v count m.0, m.1.0))
    (λ v text m. (lt-ltb v count m.0, (m.1, below_fits v count a m.0)))
    (item_below count a kind.NoCode)

-- ---- what comes behind a part, and is all that is told
pub record Behind {X Y : Type 0} (First : X → List Bool → Type 0) (Second : X → Y → List Bool → Type 0) (y : Y) (text : List Bool) : Type 0 where
  pub by : X
  pub both : Then (First by) (Second by y) text

behind_same : {X Y : Type 0} (r : Result (X × Spot) Fault) (two : X → Reader Y) → (r >>= λ x. two x.0 x.1) ≡ ((r >>= λ x. two x.0 x.1 >>= λ y. given {X = X × Y} ((x.0, y.0), y.1)) >>= λ z. given {X = Y} (z.0.1, z.1))
behind_same {X} {Y} (Ok x) two = inner (two x.0 x.1)
  where
    inner : (q : Result (Y × Spot) Fault) → q ≡ ((q >>= λ y. given {X = X × Y} ((x.0, y.0), y.1)) >>= λ z. given {X = Y} (z.0.1, z.1))
    inner (Ok y) = refl
    inner (Err e) = refl
behind_same (Err e) two = refl

item_behind : {X Y : Type 0} (a : Align) (one : Reader X) (two : X → Reader Y) (First : X → List Bool → Type 0) (Second : X → Y → List Bool → Type 0) → Item a one First → ((x : X) → Item a (two x) (Second x))
    → Item {X = Y} a (λ s. one s >>= λ x. two x.0 x.1) (Behind First Second)
item_behind {X} {Y} a one two First Second i j =
    item_spelled a (λ s. one s >>= λ x. two x.0 x.1) (Made last (λ p. Then (First p.0) (Second p.0 p.1))) (Behind First Second) to from
    (item_same a (λ s. (one s >>= λ x. two x.0 x.1 >>= λ y. given {X = X × Y} ((x.0, y.0), y.1)) >>= λ z. given {X = Y} (last z.0, z.1)) (λ s. one s >>= λ x. two x.0 x.1) (Made last (λ p. Then (First p.0) (Second p.0 p.1))) (λ s. behind_same (one s) two)
    (item_made a (λ s. one s >>= λ x. two x.0 x.1 >>= λ y. given {X = X × Y} ((x.0, y.0), y.1)) (λ p. Then (First p.0) (Second p.0 p.1)) last
    (item_for a one two First Second i j)))
  where
    last : X × Y → Y
    last p = p.1

    to : (y : Y) (text : List Bool) → Made last (λ p. Then (First p.0) (Second p.0 p.1)) y text → Behind First Second y text
    to y text m = subst (λ (z : Y). Behind First Second z text) m.is (record { by = m.from.0; both = m.spelled })

    from : (y : Y) (text : List Bool) → Behind First Second y text → Made last (λ p. Then (First p.0) (Second p.0 p.1)) y text
    from y text m = record { from = (m.by, y); is = refl; spelled = m.both }

-- ---- what is told without more bits
told_item : {X : Type 0} (a : Align) (x : X) → Item a (λ s. given (x, s)) (λ y text. (x ≡ y) × (text ≡ []))
told_item {X} a x = record { takes = taking; again = reading; whole = λ y text m e. rw m.1 refl }
  where
    taking : (y : X) (s t : Spot) → IsBytes s.bytes → IsAligned a s → given (x, s) ≡ given (y, t) → Taken a (λ text. (x ≡ y) × (text ≡ [])) s t
    taking y s t fits al r =
        let e : (x, s) ≡ (y, t) = ok_is (x, s) (y, t) r in
        subst (λ (w : X × Spot). Taken a (λ text. (x ≡ w.0) × (text ≡ [])) s w.1) e (record {
          text = [];
          spelled = (refl, refl);
          front = record { parts = refl; bytes = refl; place = omega arith };
          aligned = al;
          fits = fits;
        })

    reading : (y : X) (text : List Bool) (s : Spot) (more : List Bool) → IsBytes s.bytes → IsAligned a s → (x ≡ y) × (text ≡ []) → rest s ≡ text ++ more → given (x, s) ≡ given (y, moved s (length text))
    reading y text s more fits al m e =
        let p : s.place ≡ s.place + 0 = omega arith in
        rw m.1 (ap (λ (z : X). given (z, s)) m.0 ∙ ap (λ (place : ℕ). given (y, record { bytes = s.bytes; place = place })) p)

-- nothing is told
none_item : {X : Type 0} (a : Align) → Item {X = X} a (fault_at kind.NoCode) (λ x text. ⊥)
none_item {X} a = record { takes = λ x s t fits al r. absurd (no_result x s t r); again = λ x text s more fits al m e. absurd m; whole = λ x text m. absurd m }
  where
    no_result : (x : X) (s t : Spot) → fault_at kind.NoCode s ≡ given (x, t) → ⊥
    no_result x s t r = cc

-- ---- the parts of a code
abbrev pub MemberTold : {X : Type 0} → Option X → X → List Bool → Type 0
MemberTold None x text = ⊥
MemberTold (Some y) x text = (y ≡ x) × (text ≡ [])

member_told_item : {X : Type 0} (a : Align) (o : Option X) → Item a (told o) (MemberTold o)
member_told_item a None = none_item a
member_told_item a (Some x) = told_item a x

abbrev pub MemberText : {X : Type 0} → Align → List X → X → List Bool → Type 0
MemberText a xs = Behind (PartText (length xs) a) (λ k. MemberTold (slice_get xs k))

member_item : {X : Type 0} (a : Align) (xs : List X) → Item a (member_at a xs) (MemberText a xs)
unfolding member_at
member_item a xs = item_behind a (part_at (length xs) a) (λ k. told (slice_get xs k)) (PartText (length xs) a) (λ k. MemberTold (slice_get xs k)) (part_item (length xs) a) (λ k. member_told_item a (slice_get xs k))

abbrev pub SecondTold : {X : Type 0} → Align → Option (Second X) → X → List Bool → Type 0
SecondTold a None x text = ⊥
SecondTold a (Some (single y)) x text = (y ≡ x) × (text ≡ [])
SecondTold a (Some (group xs)) x text = MemberText a xs x text

second_told_item : {X : Type 0} (a : Align) (o : Option (Second X)) → Item a (second_told a o) (SecondTold a o)
second_told_item a None = none_item a
second_told_item a (Some (single x)) = told_item a x
second_told_item a (Some (group xs)) = member_item a xs

abbrev pub SecondText : {X : Type 0} → Align → List (Second X) → X → List Bool → Type 0
SecondText a xs = Behind (PartText (length xs) a) (λ j. SecondTold a (slice_get xs j))

second_item : {X : Type 0} (a : Align) (xs : List (Second X)) → Item a (second_at a xs) (SecondText a xs)
unfolding second_at
second_item a xs = item_behind a (part_at (length xs) a) (λ j. second_told a (slice_get xs j)) (PartText (length xs) a) (λ j. SecondTold a (slice_get xs j)) (part_item (length xs) a) (λ j. second_told_item a (slice_get xs j))

abbrev pub FirstTold : {X : Type 0} → Align → List (Second X) → Option X → X → List Bool → Type 0
FirstTold a seconds None x text = SecondText a seconds x text
FirstTold a seconds (Some y) x text = (y ≡ x) × (text ≡ [])

first_told_item : {X : Type 0} (a : Align) (seconds : List (Second X)) (o : Option X) → Item a (first_told a seconds o) (FirstTold a seconds o)
first_told_item a seconds None = second_item a seconds
first_told_item a seconds (Some x) = told_item a x

abbrev pub CodeText : {X : Type 0} → Align → Productions X → X → List Bool → Type 0
CodeText a p = Behind (PartText (first_values p) a) (λ i. FirstTold a p.seconds (slice_get p.firsts i))

pub code_item : {X : Type 0} (a : Align) (p : Productions X) → Item a (code_at a p) (CodeText a p)
unfolding code_at
code_item a p = item_behind a (part_at (first_values p) a) (λ i. first_told a p.seconds (slice_get p.firsts i)) (PartText (first_values p) a) (λ i. FirstTold a p.seconds (slice_get p.firsts i)) (part_item (first_values p) a) (λ i. first_told_item a p.seconds (slice_get p.firsts i))
