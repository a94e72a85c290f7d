-- A code is read part by part as the codes of its state go on.
use Rattle.std.proofs.Common.{◌≡◌, ◌≢◌, ℕ, zero, suc, ◌+◌, ◌<◌, true, false, cond, ◌||◌, ltb, ltb-true, List, [], ◌∷◌, ◌++◌, length, slice_get, Option, Some, None, Result, Ok, Err, refl, sym, ap, ◌∙◌, All, eq-eqb, ne_eqb, arith}
use Rattle.std.proofs.lemmas.List.{map-append}
use Rattle.exi_bits.specs.declared.align.Align.{Align}
use Rattle.exi_bits.specs.declared.fault.Fault.{Fault}
use Rattle.exi_bits.specs.declared.fault.Kind.TheVariants as kind
use Rattle.exi_bits.specs.Bits.{Spot}
use Rattle.exi_bits.specs.Unsigned.{◌>>=◌, below_at, field_at}
use Rattle.exi_bits.specs.Widths.{width_for}
use Rattle.exi_items.proofs.Items.{bind_ok, given, guard_ok}
use Rattle.exi_gram.specs.Codes.{Coded, HasMembers, IsClosedUp, Productions, Second, code_at, coded_from, coded_second, coded_seconds, first_told, first_values, going_on, group, member_at, part_at, second_at, second_told, single, told, values_of}
use Rattle.exi_gram.specs.Laws.{CodeIsParts, codes, ends, is_told, parts_read}
use Rattle.exi_gram.proofs.CodeLaws.{get_none, group_behind, longer_few, second_count, third_count}
use Rattle.exi_gram.proofs.CodeLists.{first_count, going-append, going_both, going_longer, parts_in, some_is}

-- ---- codes that have ended
told-append : (xs ys : List (List ℕ)) → is_told (xs ++ ys) ≡ (is_told xs || is_told ys)
told-append [] ys = refl
told-append ([] ∷ xs) ys = refl
told-append ((part ∷ parts) ∷ xs) ys = told-append xs ys

pub not_from : {X : Type 0} (part : ℕ) (xs : List X) → is_told (parts_in (coded_from [] part xs)) ≡ false
not_from part [] = refl
not_from part (x ∷ xs) = not_from (suc part) xs

not_behind : {X : Type 0} (one : ℕ) (front : List ℕ) (part : ℕ) (xs : List X) → is_told (parts_in (coded_from (one ∷ front) part xs)) ≡ false
not_behind one front part [] = refl
not_behind one front part (x ∷ xs) = not_behind one front (suc part) xs

both_not : (xs ys : List (List ℕ)) → is_told xs ≡ false → is_told ys ≡ false → is_told (xs ++ ys) ≡ false
both_not xs ys e f = told-append xs ys ∙ rw (e, f) refl

not_second : {X : Type 0} (part : ℕ) (x : Second X) → is_told (parts_in (coded_second [] part x)) ≡ false
not_second part (single x) = refl
not_second part (group xs) = not_behind part [] 0 xs

not_second_behind : {X : Type 0} (one part : ℕ) (x : Second X) → is_told (parts_in (coded_second (one ∷ []) part x)) ≡ false
not_second_behind one part (single x) = refl
not_second_behind one part (group xs) = not_behind one (part ∷ []) 0 xs

pub not_seconds : {X : Type 0} (part : ℕ) (xs : List (Second X)) → is_told (parts_in (coded_seconds [] part xs)) ≡ false
not_seconds part [] = refl
not_seconds {X} part (x ∷ xs) = ap is_told (map-append (λ (c : Coded X). c.parts) (coded_second [] part x) (coded_seconds [] (suc part) xs)) ∙ both_not (parts_in (coded_second [] part x)) (parts_in (coded_seconds [] (suc part) xs)) (not_second part x) (not_seconds (suc part) xs)

not_seconds_behind : {X : Type 0} (one part : ℕ) (xs : List (Second X)) → is_told (parts_in (coded_seconds (one ∷ []) part xs)) ≡ false
not_seconds_behind one part [] = refl
not_seconds_behind {X} one part (x ∷ xs) = ap is_told (map-append (λ (c : Coded X). c.parts) (coded_second (one ∷ []) part x) (coded_seconds (one ∷ []) (suc part) xs)) ∙ both_not (parts_in (coded_second (one ∷ []) part x)) (parts_in (coded_seconds (one ∷ []) (suc part) xs)) (not_second_behind one part x) (not_seconds_behind one (suc part) xs)

pub not_codes : {X : Type 0} (p : Productions X) → is_told (codes p) ≡ false
not_codes {X} p = ap is_told (map-append (λ (c : Coded X). c.parts) (coded_from [] 0 p.firsts) (coded_seconds (length p.firsts ∷ []) 0 p.seconds)) ∙ both_not (parts_in (coded_from [] 0 p.firsts)) (parts_in (coded_seconds (length p.firsts ∷ []) 0 p.seconds)) (not_from 0 p.firsts) (not_seconds_behind (length p.firsts) 0 p.seconds)

-- a code of one part ends behind it
front_told : (xs ys : List (List ℕ)) → is_told xs ≡ true → is_told (xs ++ ys) ≡ true
front_told xs ys e = told-append xs ys ∙ rw e refl

behind_told : (xs ys : List (List ℕ)) → is_told ys ≡ true → is_told (xs ++ ys) ≡ true
behind_told [] ys e = e
behind_told ([] ∷ xs) ys e = refl
behind_told ((part ∷ parts) ∷ xs) ys e = behind_told xs ys e

from_told : {X : Type 0} (part : ℕ) (xs : List X) (i : ℕ) (x : X) → slice_get xs i ≡ Some x → is_told (going_on (part + i) (parts_in (coded_from [] part xs))) ≡ true
from_told part [] i x e = absurd cc
from_told part (y ∷ xs) zero x e = let p : part + 0 ≡ part = omega arith in rw (eq-eqb (part + 0) part p) refl
from_told part (y ∷ xs) (suc i) x e =
    let p : part + suc i ≡ suc part + i = omega arith in
    let q : part + suc i ≢ part = λ e. omega arith in
    rw (ne_eqb (part + suc i) part q) (ap (λ (k : ℕ). is_told (going_on k (parts_in (coded_from [] (suc part) xs)))) p ∙ from_told (suc part) xs i x e)

first_ends : {X : Type 0} (p : Productions X) (i : ℕ) (x : X) → slice_get p.firsts i ≡ Some x → is_told (going_on i (codes p)) ≡ true
first_ends {X} p i x e =
    let q : i ≡ 0 + i = omega arith in
    ap (λ (z : List (List ℕ)). is_told (going_on i z)) (map-append (λ (c : Coded X). c.parts) (coded_from [] 0 p.firsts) (coded_seconds (length p.firsts ∷ []) 0 p.seconds))
    ∙ ap is_told (going-append i (parts_in (coded_from [] 0 p.firsts)) (parts_in (coded_seconds (length p.firsts ∷ []) 0 p.seconds)))
    ∙ front_told (going_on i (parts_in (coded_from [] 0 p.firsts))) (going_on i (parts_in (coded_seconds (length p.firsts ∷ []) 0 p.seconds))) (ap (λ (k : ℕ). is_told (going_on k (parts_in (coded_from [] 0 p.firsts)))) q ∙ from_told 0 p.firsts i x e)

second_ends : {X : Type 0} (part : ℕ) (xs : List (Second X)) (j : ℕ) (x : X) → slice_get xs j ≡ Some (single x) → is_told (going_on (part + j) (parts_in (coded_seconds [] part xs))) ≡ true
second_ends part [] j x e = absurd cc
second_ends {X} part (y ∷ xs) zero x e =
    let p : part + 0 ≡ part = omega arith in
    let q : y ≡ single x = some_is y (single x) e in
    ap is_told (going_both (part + 0) [] part y xs)
    ∙ front_told (going_on (part + 0) (parts_in (coded_second [] part y))) (going_on (part + 0) (parts_in (coded_seconds [] (suc part) xs)))
    (ap (λ (z : Second X). is_told (going_on (part + 0) (parts_in (coded_second [] part z)))) q ∙ rw (eq-eqb (part + 0) part p) refl)
second_ends {X} part (y ∷ xs) (suc j) x e =
    let p : part + suc j ≡ suc part + j = omega arith in
    ap is_told (going_both (part + suc j) [] part y xs)
    ∙ behind_told (going_on (part + suc j) (parts_in (coded_second [] part y))) (going_on (part + suc j) (parts_in (coded_seconds [] (suc part) xs)))
    (ap (λ (k : ℕ). is_told (going_on k (parts_in (coded_seconds [] (suc part) xs)))) p ∙ second_ends (suc part) xs j x e)

-- ---- reading
pub part_within : (count : ℕ) (a : Align) (s : Spot) (q : ℕ × Spot) → part_at count a s ≡ given q → q.0 < count
unfolding part_at below_at
part_within count a s q e =
    let u = bind_ok (field_at (width_for count) a s) (λ found. cond (ltb found.0 count) (Ok found) (Err (record { kind = kind.NoCode; bit = s.place }))) q e in
    let g = guard_ok (ltb u.0.0 count) u.0 q (record { kind = kind.NoCode; bit = s.place }) u.2 in
    ltb-true q.0 count (ap (λ (x : ℕ × Spot). ltb x.0 count) (sym g.1) ∙ g.0)

-- one part, and what is told behind it
part_then : {X : Type 0} (more : ℕ) (a : Align) (cs : List (List ℕ)) (count : ℕ) (s : Spot) (next : ℕ × Spot → Result (X × Spot) Fault) → is_told cs ≡ false → values_of cs ≡ count
    → ((q : ℕ × Spot) → q.0 < count → ends (next q) ≡ ends (parts_read more a (going_on q.0 cs) q.1)) → ends (part_at count a s >>= next) ≡ ends (parts_read (suc more) a cs s)
unfolding parts_read
part_then {X} more a cs count s next none v h = rw (none, v) (by (part_at count a s) refl)
  where
    last : (part : ℕ) (r : Result (List ℕ × Spot) Fault) → ends r ≡ ends (r >>= λ others. Ok (part ∷ others.0, others.1))
    last part (Ok x) = refl
    last part (Err e) = refl

    by : (r : Result (ℕ × Spot) Fault) → part_at count a s ≡ r → ends (r >>= next) ≡ ends (r >>= λ part. parts_read more a (going_on part.0 cs) part.1 >>= λ others. Ok (part.0 ∷ others.0, others.1))
    by (Ok q) e = h q (part_within count a s q e) ∙ last q.0 (parts_read more a (going_on q.0 cs) q.1)
    by (Err f) e = refl

ended : (more : ℕ) (a : Align) (cs : List (List ℕ)) (s : Spot) → is_told cs ≡ true → ends (parts_read (suc more) a cs s) ≡ Ok s
unfolding parts_read
ended more a cs s e = rw e refl

none_read : (a : Align) (cs : List (List ℕ)) (s : Spot) → ends (parts_read 0 a cs s) ≡ Ok s
unfolding parts_read
none_read a cs s = refl

pub within_get : {X : Type 0} (xs : List X) (i : ℕ) → i < length xs → (x : X) × (slice_get xs i ≡ Some x)
within_get [] i less = absurd (omega arith)
within_get (x ∷ xs) zero less = (x, refl)
within_get (x ∷ xs) (suc i) less = within_get xs i (omega arith)

member_ends : {X : Type 0} (a : Align) (xs : List X) (s : Spot) → ends (member_at a xs s) ≡ ends (parts_read 1 a (parts_in (coded_from [] 0 xs)) s)
unfolding member_at
member_ends {X} a xs s = part_then 0 a (parts_in (coded_from [] 0 xs)) (length xs) s (λ third. told (slice_get xs third.0) third.1) (not_from 0 xs) (third_count xs) by
  where
    by : (q : ℕ × Spot) → q.0 < length xs → ends (told (slice_get xs q.0) q.1) ≡ ends (parts_read 0 a (going_on q.0 (parts_in (coded_from [] 0 xs))) q.1)
    by q less = let k = within_get xs q.0 less in rw k.1 (sym (none_read a (going_on q.0 (parts_in (coded_from [] 0 xs))) q.1))

second_told_ends : {X : Type 0} (a : Align) (xs : List (Second X)) (j : ℕ) (y : Second X) (s : Spot) → slice_get xs j ≡ Some y → ends (second_told a (Some y) s) ≡ ends (parts_read 1 a (going_on j (parts_in (coded_seconds [] 0 xs))) s)
second_told_ends a xs j (single x) s e =
    let q : j ≡ 0 + j = omega arith in
    sym (ended 0 a (going_on j (parts_in (coded_seconds [] 0 xs))) s (ap (λ (k : ℕ). is_told (going_on k (parts_in (coded_seconds [] 0 xs)))) q ∙ second_ends 0 xs j x e))
second_told_ends a xs j (group ys) s e = member_ends a ys s ∙ ap (λ (z : List (List ℕ)). ends (parts_read 1 a z s)) (sym (group_behind xs j ys e))

second_at_ends : {X : Type 0} (a : Align) (xs : List (Second X)) (s : Spot) → All HasMembers xs → ends (second_at a xs s) ≡ ends (parts_read 2 a (parts_in (coded_seconds [] 0 xs)) s)
unfolding second_at
second_at_ends {X} a xs s h = part_then 1 a (parts_in (coded_seconds [] 0 xs)) (length xs) s (λ second. second_told a (slice_get xs second.0) second.1) (not_seconds 0 xs) (second_count xs h) by
  where
    by : (q : ℕ × Spot) → q.0 < length xs → ends (second_told a (slice_get xs q.0) q.1) ≡ ends (parts_read 1 a (going_on q.0 (parts_in (coded_seconds [] 0 xs))) q.1)
    by q less = let k = within_get xs q.0 less in rw k.1 (second_told_ends a xs q.0 k.0 q.1 k.1)

first_told_ends : {X : Type 0} (a : Align) (p : Productions X) (i : ℕ) (o : Option X) (s : Spot) → IsClosedUp p → i < first_values p → slice_get p.firsts i ≡ o → ends (first_told a p.seconds o s) ≡ ends (parts_read 2 a (going_on i (codes p)) s)
first_told_ends a p i (Some x) s h less e = sym (ended 1 a (going_on i (codes p)) s (first_ends p i x e))
first_told_ends a p i None s h less e =
    let q : length p.firsts ≡ i = omega (arith, get_none p.firsts i e, longer_few p.seconds) in
    second_at_ends a p.seconds s h ∙ ap (λ (z : List (List ℕ)). ends (parts_read 2 a z s)) (sym (going_longer p)) ∙ ap (λ (k : ℕ). ends (parts_read 2 a (going_on k (codes p)) s)) q

pub code_parts_read : {X : Type 0} → CodeIsParts X
unfolding code_at
code_parts_read {X} p h a s = part_then 2 a (codes p) (first_values p) s (λ first. first_told a p.seconds (slice_get p.firsts first.0) first.1) (not_codes p) (first_count p h) (λ q less. first_told_ends a p q.0 (slice_get p.firsts q.0) q.1 h less refl)
