-- What a code tells is one of the state's productions, and reading it goes onward.
use Rattle.std.proofs.Common.{◌≡◌, inl, inr, ℕ, ◌≤◌, get_or, Bool, true, false, cond, ltb, List, [], ◌∷◌, filter, length, slice_get, Option, Some, None, Err, refl, ap, subst, All, arith}
use Rattle.std.proofs.lemmas.List.Elements.{All-append, All-cons, All-filter, All-head, All-map, All-nil, All-tail, All-weaker}
use Rattle.std.proofs.lemmas.Option.{get_or_from_slice_get, slice_get-get_or, slice_get_within}
use Rattle.exi_bits.specs.declared.align.Align.{Align}
use Rattle.exi_bits.specs.declared.fault.Fault.{Fault}
use Rattle.exi_bits.specs.declared.fault.Kind.TheVariants as kind
use Rattle.exi_bits.specs.Bits.{Spot, left, moved, number_at, taken, value_at as number_value}
use Rattle.exi_bits.specs.Repeat.{Reader}
use Rattle.exi_bits.specs.Unsigned.{◌>>=◌, at_spot, below_at, fault_at, field_at, needed}
use Rattle.exi_bits.specs.Widths.{width_for}
use Rattle.exi_items.proofs.Items.{bind_ok, given, ok_is}
use Rattle.exi_gram.specs.Codes.{Productions, Second, code_at, first_told, first_values, group, group_unless_empty, kept_second, kept_seconds, mapped, mapped_second, member_at, part_at, pruned, second_at, second_told, single, told}
use Rattle.exi_gram.specs.Laws.{CodeGoesOn, CodeIsOfState, IsOneOf}

-- ---- what holds of each production of a state
abbrev pub EachOf : {X : Type 0} → (X → Type 0) → Second X → Type 0
EachOf P (single x) = P x
EachOf P (group xs) = All P xs

pub record Each {X : Type 0} (P : X → Type 0) (p : Productions X) : Type 0 where
  pub firsts : All P p.firsts
  pub seconds : All (EachOf P) p.seconds

-- ---- one of the productions
at_place : {X : Type 0} (P : X → Type 0) (xs : List X) (place : ℕ) (x : X) → All P xs → slice_get xs place ≡ Some x → P x
at_place P xs place x all e = subst P (get_or_from_slice_get xs place x x e) (all place x (slice_get_within xs place x e))

told_is : {X : Type 0} (o : Option X) (s t : Spot) (x : X) → told o s ≡ given (x, t) → o ≡ Some x
told_is {X} (Some y) s t x e = ap (λ (z : X × Spot). Some z.0) (ok_is (y, s) (x, t) e)
told_is None s t x e = absurd cc

member_is : {X : Type 0} (P : X → Type 0) (a : Align) (xs : List X) → All P xs → (s t : Spot) (x : X) → member_at a xs s ≡ given (x, t) → P x
unfolding member_at
member_is P a xs all s t x e =
    let b = bind_ok (part_at (length xs) a s) (λ (third : ℕ × Spot). told (slice_get xs third.0) third.1) (x, t) e in
    at_place P xs b.0.0 x all (told_is (slice_get xs b.0.0) b.0.1 t x b.2)

second_told_is : {X : Type 0} (P : X → Type 0) (a : Align) (xs : List (Second X)) → All (EachOf P) xs → (place : ℕ) (o : Option (Second X)) → slice_get xs place ≡ o → (s t : Spot) (x : X) → second_told a o s ≡ given (x, t) → P x
second_told_is P a xs all place None is s t x e = absurd cc
second_told_is {X} P a xs all place (Some (single y)) is s t x e = subst P (ap (λ (z : X × Spot). z.0) (ok_is (y, s) (x, t) e)) (at_place (EachOf P) xs place (single y) all is)
second_told_is P a xs all place (Some (group ys)) is s t x e = member_is P a ys (at_place (EachOf P) xs place (group ys) all is) s t x e

second_is : {X : Type 0} (P : X → Type 0) (a : Align) (xs : List (Second X)) → All (EachOf P) xs → (s t : Spot) (x : X) → second_at a xs s ≡ given (x, t) → P x
unfolding second_at
second_is P a xs all s t x e =
    let b = bind_ok (part_at (length xs) a s) (λ (second : ℕ × Spot). second_told a (slice_get xs second.0) second.1) (x, t) e in
    second_told_is P a xs all b.0.0 (slice_get xs b.0.0) refl b.0.1 t x b.2

first_told_is : {X : Type 0} (P : X → Type 0) (a : Align) (p : Productions X) → Each P p → (place : ℕ) (o : Option X) → slice_get p.firsts place ≡ o → (s t : Spot) (x : X) → first_told a p.seconds o s ≡ given (x, t) → P x
first_told_is {X} P a p all place (Some y) is s t x e = subst P (ap (λ (z : X × Spot). z.0) (ok_is (y, s) (x, t) e)) (at_place P p.firsts place y all.firsts is)
first_told_is P a p all place None is s t x e = second_is P a p.seconds all.seconds s t x e

-- what holds of each production holds of the one that a code tells
pub code_is : {X : Type 0} (P : X → Type 0) (p : Productions X) → Each P p → (a : Align) (s t : Spot) (x : X) → code_at a p s ≡ given (x, t) → P x
unfolding code_at
code_is P p all a s t x e =
    let b = bind_ok (part_at (first_values p) a s) (λ (first : ℕ × Spot). first_told a p.seconds (slice_get p.firsts first.0) first.1) (x, t) e in
    first_told_is P a p all b.0.0 (slice_get p.firsts b.0.0) refl b.0.1 t x b.2

each_second : {X : Type 0} (p : Productions X) (place : ℕ) (y : Second X) → slice_get p.seconds place ≡ Some y → EachOf (IsOneOf p) y
each_second p place (single x) e = inr (place, single x, e, refl)
each_second p place (group ys) e = λ k d less. inr (place, group ys, e, (k, slice_get-get_or ys k d less))

each_is : {X : Type 0} (p : Productions X) → Each (IsOneOf p) p
each_is p = record {
  firsts = λ k d less. inl (k, slice_get-get_or p.firsts k d less);
  seconds = λ k d less. each_second p k (get_or p.seconds k d) (slice_get-get_or p.seconds k d less);
}

pub code_of_state : {X : Type 0} → CodeIsOfState X
code_of_state p a s t x e = code_is (IsOneOf p) p (each_is p) a s t x e

-- ---- pruned, and mapped
rest_left : {X : Type 0} (P : X → Type 0) (xs : List X) → All P xs → All (EachOf P) (group_unless_empty xs)
rest_left P [] h = All-nil (EachOf P)
rest_left P (x ∷ xs) h = All-cons (EachOf P) (group (x ∷ xs)) [] h (All-nil (EachOf P))

single_left : {X : Type 0} (P : X → Type 0) (b : Bool) (x : X) → P x → All (EachOf P) (cond b (single x ∷ []) [])
single_left P true x h = All-cons (EachOf P) (single x) [] h (All-nil (EachOf P))
single_left P false x h = All-nil (EachOf P)

second_left : {X : Type 0} (P : X → Type 0) (keep : X → Bool) (x : Second X) → EachOf P x → All (EachOf P) (kept_second keep x)
second_left P keep (single x) h = single_left P (keep x) x h
second_left P keep (group xs) h = rest_left P (filter keep xs) (All-filter keep P xs h)

seconds_left : {X : Type 0} (P : X → Type 0) (keep : X → Bool) (xs : List (Second X)) → All (EachOf P) xs → All (EachOf P) (kept_seconds keep xs)
seconds_left P keep [] h = All-nil (EachOf P)
seconds_left P keep (x ∷ xs) h = All-append (EachOf P) (kept_second keep x) (kept_seconds keep xs) (second_left P keep x (All-head (EachOf P) x xs h)) (seconds_left P keep xs (All-tail (EachOf P) x xs h))

pub each_pruned : {X : Type 0} (P : X → Type 0) (keep : X → Bool) (p : Productions X) → Each P p → Each P (pruned keep p)
each_pruned P keep p e = record { firsts = All-filter keep P p.firsts e.firsts; seconds = seconds_left P keep p.seconds e.seconds }

mapped_left : {X Y : Type 0} (P : Y → Type 0) (f : X → Y) (x : Second X) → EachOf (λ y. P (f y)) x → EachOf P (mapped_second f x)
mapped_left P f (single x) h = h
mapped_left P f (group xs) h = All-map P f xs h

pub each_mapped : {X Y : Type 0} (P : Y → Type 0) (f : X → Y) (p : Productions X) → Each (λ x. P (f x)) p → Each P (mapped f p)
each_mapped P f p e = record {
  firsts = All-map P f p.firsts e.firsts;
  seconds = All-map (EachOf P) (mapped_second f) p.seconds (All-weaker (EachOf (λ x. P (f x))) (λ x. EachOf P (mapped_second f x)) (mapped_left P f) p.seconds e.seconds);
}

-- ---- onward
abbrev Onward : Spot → Spot → Type 0
Onward s t = (t.bytes ≡ s.bytes) × (s.place ≤ t.place)

abbrev GoesOn : {X : Type 0} → Reader X → Type 0
GoesOn {X} read = (s t : Spot) (x : X) → read s ≡ given (x, t) → Onward s t

stays : {X : Type 0} (x : X) → GoesOn {X = X} (λ s. given (x, s))
stays {X} x s t y e = subst (Onward s) (ap (λ (z : X × Spot). z.1) (ok_is (x, s) (y, t) e)) (refl, omega arith)

needed_is : (o : Option (ℕ × Spot)) (s : Spot) (q : ℕ × Spot) → at_spot s (needed o) ≡ given q → o ≡ Some q
needed_is None s q e = absurd cc
needed_is (Some p) s q e = ap (λ (z : ℕ × Spot). Some z) (ok_is p q e)

number_moved : (b : Bool) (p q : ℕ × Spot) → cond b None (Some p) ≡ Some q → p ≡ q
number_moved true p q e = absurd cc
number_moved false p q e = cc

field_on : (n : ℕ) (a : Align) → GoesOn (field_at n a)
unfolding field_at number_at
field_on n a s t x e =
    let h = needed_is (cond (ltb (left s) (taken n a)) None (Some (number_value n a s, moved s (taken n a)))) s (x, t) e in
    let k = number_moved (ltb (left s) (taken n a)) (number_value n a s, moved s (taken n a)) (x, t) h in
    subst (Onward s) (ap (λ (z : ℕ × Spot). z.1) k) (refl, omega arith)

guarded : (b : Bool) (p q : ℕ × Spot) (f : Fault) → cond b (given p) (Err f) ≡ given q → p ≡ q
guarded true p q f e = ok_is p q e
guarded false p q f e = absurd cc

part_on : (count : ℕ) (a : Align) → GoesOn (part_at count a)
unfolding part_at below_at
part_on count a s t x e =
    let b = bind_ok (field_at (width_for count) a s) (λ (found : ℕ × Spot). cond (ltb found.0 count) (given found) (fault_at kind.NoCode s)) (x, t) e in
    let k = guarded (ltb b.0.0 count) b.0 (x, t) (record { kind = kind.NoCode; bit = s.place }) b.2 in
    subst (Onward s) (ap (λ (z : ℕ × Spot). z.1) k) (field_on (width_for count) a s b.0.1 b.0.0 b.1)

-- a part, and what it tells
part_then : {X : Type 0} (count : ℕ) (a : Align) (more : ℕ → Reader X) → ((v : ℕ) → GoesOn {X = X} (more v)) → GoesOn {X = X} (λ s. part_at count a s >>= λ p. more p.0 p.1)
part_then {X} count a more on s t x e =
    let b = bind_ok (part_at count a s) (λ (p : ℕ × Spot). more p.0 p.1) (x, t) e in
    let one = part_on count a s b.0.1 b.0.0 b.1 in
    let two = on b.0.0 b.0.1 t x b.2 in
    (subst (λ (bytes : List ℕ). t.bytes ≡ bytes) one.0 two.0, omega (arith, one.1, two.1))

told_on : {X : Type 0} (o : Option X) → GoesOn {X = X} (told o)
told_on {X} (Some x) = stays x
told_on None = λ s t y e. absurd cc

member_on : {X : Type 0} (a : Align) (xs : List X) → GoesOn {X = X} (member_at a xs)
unfolding member_at
member_on a xs = part_then (length xs) a (λ v. told (slice_get xs v)) (λ v. told_on (slice_get xs v))

second_told_on : {X : Type 0} (a : Align) (o : Option (Second X)) → GoesOn {X = X} (second_told a o)
second_told_on a None = λ s t y e. absurd cc
second_told_on {X} a (Some (single x)) = stays x
second_told_on a (Some (group xs)) = member_on a xs

second_on : {X : Type 0} (a : Align) (xs : List (Second X)) → GoesOn {X = X} (second_at a xs)
unfolding second_at
second_on a xs = part_then (length xs) a (λ v. second_told a (slice_get xs v)) (λ v. second_told_on a (slice_get xs v))

first_told_on : {X : Type 0} (a : Align) (seconds : List (Second X)) (o : Option X) → GoesOn {X = X} (first_told a seconds o)
first_told_on {X} a seconds (Some x) = stays x
first_told_on a seconds None = second_on a seconds

pub code_on : {X : Type 0} → CodeGoesOn X
unfolding code_at
code_on p a = part_then (first_values p) a (λ v. first_told a p.seconds (slice_get p.firsts v)) (λ v. first_told_on a p.seconds (slice_get p.firsts v))
