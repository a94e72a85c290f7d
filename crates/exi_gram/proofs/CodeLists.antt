-- The codes of a state as lists: where each production stands, and how many values each part has.
use Rattle.std.proofs.Common.{All, ◌≡◌, ◌≢◌, ℕ, zero, suc, ◌+◌, ◌<◌, ◌≤◌, max, true, false, cond, eqb, List, [], ◌∷◌, ◌++◌, length, map, slice_get, Some, ◌⊎◌, inl, inr, refl, sym, ap, ◌∙◌, subst, eq-eqb, ne_eqb, arith}
use Rattle.std.proofs.lemmas.List.{append-nil, map-append}
use Rattle.exi_gram.specs.Codes.{Coded, HasMembers, IsClosedUp, Productions, Second, coded, coded_from, coded_second, coded_seconds, first_values, group, going_on, longer, single, values_of}
use Rattle.exi_gram.specs.Laws.{codes}

-- ---- where a production stands
-- behind a second part
abbrev pub StandsIn : {X : Type 0} → List ℕ → Second X → Coded X → Type 0
StandsIn front (single x) c = (x ≡ c.item) × (c.parts ≡ front)
StandsIn front (group xs) c = (third : ℕ) × (slice_get xs third ≡ Some c.item) × (c.parts ≡ front ++ third ∷ [])

-- behind what is in front of the second parts, which count from a number
pub record StandsBehind {X : Type 0} (front : List ℕ) (from : ℕ) (xs : List (Second X)) (c : Coded X) : Type 0 where
  pub second : ℕ
  pub holds : Second X
  pub there : slice_get xs second ≡ Some holds
  pub stands : StandsIn (front ++ (from + second) ∷ []) holds c

pub record StandsFirst {X : Type 0} (front : List ℕ) (from : ℕ) (xs : List X) (c : Coded X) : Type 0 where
  pub first : ℕ
  pub there : slice_get xs first ≡ Some c.item
  pub parts : c.parts ≡ front ++ (from + first) ∷ []

abbrev pub Stands : {X : Type 0} → Productions X → Coded X → Type 0
Stands p c = StandsFirst [] 0 p.firsts c ⊎ StandsBehind (length p.firsts ∷ []) 0 p.seconds c

pub record Place {X : Type 0} (cs : List (Coded X)) (c : Coded X) : Type 0 where
  pub place : ℕ
  pub there : slice_get cs place ≡ Some c

pub some_is : {X : Type 0} (x y : X) → Some x ≡ Some y → x ≡ y
some_is x y e = cc

-- a place in two lists
pub get_front : {X : Type 0} (xs ys : List X) (i : ℕ) (x : X) → slice_get xs i ≡ Some x → slice_get (xs ++ ys) i ≡ Some x
get_front [] ys i x e = absurd cc
get_front (y ∷ xs) ys zero x e = e
get_front (y ∷ xs) ys (suc i) x e = get_front xs ys i x e

pub get_behind : {X : Type 0} (xs ys : List X) (i : ℕ) → slice_get (xs ++ ys) (length xs + i) ≡ slice_get ys i
get_behind [] ys i = let e : 0 + i ≡ i = omega arith in ap (λ (k : ℕ). slice_get ys k) e
get_behind (x ∷ xs) ys i = let e : suc (length xs) + i ≡ suc (length xs + i) = omega arith in ap (λ (k : ℕ). slice_get (x ∷ (xs ++ ys)) k) e ∙ get_behind xs ys i

pub get_either : {X : Type 0} (xs ys : List X) (i : ℕ) (x : X) → slice_get (xs ++ ys) i ≡ Some x → (slice_get xs i ≡ Some x) ⊎ ((j : ℕ) × (slice_get ys j ≡ Some x))
get_either [] ys i x e = inr (i, e)
get_either (y ∷ xs) ys zero x e = inl e
get_either (y ∷ xs) ys (suc i) x e = get_either xs ys i x e

-- a code has its production
pub from_get : {X : Type 0} (front : List ℕ) (part : ℕ) (xs : List X) (i : ℕ) (x : X) → slice_get xs i ≡ Some x → slice_get (coded_from front part xs) i ≡ Some (record { parts = front ++ (part + i) ∷ []; item = x })
from_get front part [] i x e = absurd cc
from_get {X} front part (y ∷ xs) zero x e =
    let p : part ≡ part + 0 = omega arith in
    let q : y ≡ x = some_is y x e in
    ap (λ (k : ℕ). Some (record { parts = front ++ k ∷ []; item = y })) p ∙ ap (λ (z : X). Some (record { parts = front ++ (part + 0) ∷ []; item = z })) q
from_get {X} front part (y ∷ xs) (suc i) x e =
    let p : suc part + i ≡ part + suc i = omega arith in
    from_get front (suc part) xs i x e ∙ ap (λ (k : ℕ). Some (record { parts = front ++ k ∷ []; item = x })) p

pub from_stands : {X : Type 0} (front : List ℕ) (part : ℕ) (xs : List X) (i : ℕ) (c : Coded X) → slice_get (coded_from front part xs) i ≡ Some c → StandsFirst front part xs c
from_stands front part [] i c e = absurd cc
from_stands {X} front part (y ∷ xs) zero c e =
    let p : part ≡ part + 0 = omega arith in
    let q : record { parts = front ++ part ∷ []; item = y } ≡ c = some_is (record { parts = front ++ part ∷ []; item = y }) c e in
    record { first = 0; there = ap (λ (d : Coded X). Some d.item) q; parts = sym (ap (λ (d : Coded X). d.parts) q) ∙ ap (λ (k : ℕ). front ++ k ∷ []) p }
from_stands {X} front part (y ∷ xs) (suc i) c e =
    let s = from_stands front (suc part) xs i c e in
    let p : suc part + s.first ≡ part + suc s.first = omega arith in
    record { first = suc s.first; there = s.there; parts = s.parts ∙ ap (λ (k : ℕ). front ++ k ∷ []) p }

second_get : {X : Type 0} (front : List ℕ) (part : ℕ) (y : Second X) (c : Coded X) → StandsIn (front ++ part ∷ []) y c → Place (coded_second front part y) c
second_get {X} front part (single x) c s = record { place = 0; there = ap (λ (z : X). Some (record { parts = front ++ part ∷ []; item = z })) s.0 ∙ ap (λ (k : List ℕ). Some (record { parts = k; item = c.item })) (sym s.1) }
second_get {X} front part (group xs) c s =
    let p : 0 + s.0 ≡ s.0 = omega arith in
    record { place = s.0; there = from_get (front ++ part ∷ []) 0 xs s.0 c.item s.1 ∙ ap (λ (k : ℕ). Some (record { parts = (front ++ part ∷ []) ++ k ∷ []; item = c.item })) p ∙ ap (λ (k : List ℕ). Some (record { parts = k; item = c.item })) (sym s.2) }

second_stands : {X : Type 0} (front : List ℕ) (part : ℕ) (y : Second X) (i : ℕ) (c : Coded X) → slice_get (coded_second front part y) i ≡ Some c → StandsIn (front ++ part ∷ []) y c
second_stands {X} front part (single x) zero c e =
    let q : record { parts = front ++ part ∷ []; item = x } ≡ c = some_is (record { parts = front ++ part ∷ []; item = x }) c e in
    (ap (λ (d : Coded X). d.item) q, sym (ap (λ (d : Coded X). d.parts) q))
second_stands front part (single x) (suc i) c e = absurd cc
second_stands front part (group xs) i c e =
    let s = from_stands (front ++ part ∷ []) 0 xs i c e in
    let p : 0 + s.first ≡ s.first = omega arith in
    (s.first, s.there, s.parts ∙ ap (λ (k : ℕ). (front ++ part ∷ []) ++ k ∷ []) p)

seconds_get : {X : Type 0} (front : List ℕ) (part : ℕ) (xs : List (Second X)) (j : ℕ) (y : Second X) (c : Coded X) → slice_get xs j ≡ Some y → StandsIn (front ++ (part + j) ∷ []) y c → Place (coded_seconds front part xs) c
seconds_get front part [] j y c e s = absurd cc
seconds_get {X} front part (z ∷ xs) zero y c e s =
    let p : part + 0 ≡ part = omega arith in
    let q : y ≡ z = sym (some_is z y e) in
    let s' : StandsIn (front ++ part ∷ []) z c = subst (λ (w : Second X). StandsIn (front ++ part ∷ []) w c) q (subst (λ (k : ℕ). StandsIn (front ++ k ∷ []) y c) p s) in
    let k = second_get front part z c s' in
    record { place = k.place; there = get_front (coded_second front part z) (coded_seconds front (suc part) xs) k.place c k.there }
seconds_get front part (z ∷ xs) (suc j) y c e s =
    let p : part + suc j ≡ suc part + j = omega arith in
    let k = seconds_get front (suc part) xs j y c e (subst (λ (k : ℕ). StandsIn (front ++ k ∷ []) y c) p s) in
    record { place = length (coded_second front part z) + k.place; there = get_behind (coded_second front part z) (coded_seconds front (suc part) xs) k.place ∙ k.there }

seconds_stand : {X : Type 0} (front : List ℕ) (part : ℕ) (xs : List (Second X)) (i : ℕ) (c : Coded X) → slice_get (coded_seconds front part xs) i ≡ Some c → StandsBehind front part xs c
seconds_stand front part [] i c e = absurd cc
seconds_stand {X} front part (z ∷ xs) i c e = elim (get_either (coded_second front part z) (coded_seconds front (suc part) xs) i c e) [
  | inl here ↦
      let p : part ≡ part + 0 = omega arith in
      record { second = 0; holds = z; there = refl; stands = subst (λ (k : ℕ). StandsIn (front ++ k ∷ []) z c) p (second_stands front part z i c here) }
  | inr later ↦
      let s = seconds_stand front (suc part) xs later.0 c later.1 in
      let p : suc part + s.second ≡ part + suc s.second = omega arith in
      record { second = suc s.second; holds = s.holds; there = s.there; stands = subst (λ (k : ℕ). StandsIn (front ++ k ∷ []) s.holds c) p s.stands }
]

pub stands_at : {X : Type 0} (p : Productions X) (place : ℕ) (c : Coded X) → slice_get (coded p) place ≡ Some c → Stands p c
stands_at p place c e = elim (get_either (coded_from [] 0 p.firsts) (coded_seconds (length p.firsts ∷ []) 0 p.seconds) place c e) [
  | inl here ↦ inl (from_stands [] 0 p.firsts place c here)
  | inr later ↦ inr (seconds_stand (length p.firsts ∷ []) 0 p.seconds later.0 c later.1)
]

pub place_of : {X : Type 0} (p : Productions X) (c : Coded X) → Stands p c → Place (coded p) c
place_of p c (inl s) =
    record { place = s.first; there = get_front (coded_from [] 0 p.firsts) (coded_seconds (length p.firsts ∷ []) 0 p.seconds) s.first c (from_get [] 0 p.firsts s.first c.item s.there ∙ ap (λ (k : List ℕ). Some (record { parts = k; item = c.item })) (sym s.parts)) }
place_of p c (inr s) =
    let k = seconds_get (length p.firsts ∷ []) 0 p.seconds s.second s.holds c s.there s.stands in
    record { place = length (coded_from [] 0 p.firsts) + k.place; there = get_behind (coded_from [] 0 p.firsts) (coded_seconds (length p.firsts ∷ []) 0 p.seconds) k.place ∙ k.there }

-- ---- how many values a part has
abbrev pub parts_in : {X : Type 0} → List (Coded X) → List (List ℕ)
parts_in cs = map (λ c. c.parts) cs

values-append : (xs ys : List (List ℕ)) → values_of (xs ++ ys) ≡ max (values_of xs) (values_of ys)
values-append [] ys = omega arith
values-append (x ∷ xs) ys = omega (arith, values-append xs ys)

pub values_from : {X : Type 0} (part : ℕ) (xs : List X) → max (values_of (parts_in (coded_from [] part xs))) part ≡ part + length xs
values_from part [] = omega arith
values_from part (x ∷ xs) = omega (arith, values_from (suc part) xs)

-- behind one part that all have
values_behind : {X : Type 0} (one : ℕ) (front : List ℕ) (part : ℕ) (x : X) (xs : List X) → values_of (parts_in (coded_from (one ∷ front) part (x ∷ xs))) ≡ one + 1
values_behind one front part x [] = omega arith
values_behind one front part x (y ∷ xs) = omega (arith, values_behind one front (suc part) y xs)

pub closed_head : {X : Type 0} (x : Second X) (xs : List (Second X)) → All HasMembers (x ∷ xs) → HasMembers x
closed_head x xs h = h 0 x (omega arith)

pub closed_tail : {X : Type 0} (x : Second X) (xs : List (Second X)) → All HasMembers (x ∷ xs) → All HasMembers xs
closed_tail x xs h k d less = h (suc k) d (omega arith)

pub values_seconds : {X : Type 0} (part : ℕ) (xs : List (Second X)) → All HasMembers xs → max (values_of (parts_in (coded_seconds [] part xs))) part ≡ part + length xs
values_seconds part [] h = omega arith
values_seconds part (single x ∷ xs) h = omega (arith, values_seconds (suc part) xs (closed_tail (single x) xs h))
values_seconds part (group [] ∷ xs) h = absurd (closed_head (group []) xs h refl)
values_seconds {X} part (group (x ∷ ys) ∷ xs) h =
    let e = ap values_of (map-append (λ (c : Coded X). c.parts) (coded_from (part ∷ []) 0 (x ∷ ys)) (coded_seconds [] (suc part) xs)) ∙ values-append (parts_in (coded_from (part ∷ []) 0 (x ∷ ys))) (parts_in (coded_seconds [] (suc part) xs)) in
    let v = values_behind part [] 0 x ys in
    let w = values_seconds (suc part) xs (closed_tail (group (x ∷ ys)) xs h) in
    omega (arith, e, v, w)

-- the values of the parts of one second and of the others
values_of_both : {X : Type 0} (front : List ℕ) (part : ℕ) (x : Second X) (xs : List (Second X)) → values_of (parts_in (coded_seconds front part (x ∷ xs))) ≡ max (values_of (parts_in (coded_second front part x))) (values_of (parts_in (coded_seconds front (suc part) xs)))
values_of_both {X} front part x xs = ap values_of (map-append (λ (c : Coded X). c.parts) (coded_second front part x) (coded_seconds front (suc part) xs)) ∙ values-append (parts_in (coded_second front part x)) (parts_in (coded_seconds front (suc part) xs))

-- what all begin with has one value more than itself
values_second_behind : {X : Type 0} (one part : ℕ) (x : Second X) → HasMembers x → values_of (parts_in (coded_second (one ∷ []) part x)) ≡ one + 1
values_second_behind one part (single x) h = omega arith
values_second_behind one part (group []) h = absurd (h refl)
values_second_behind one part (group (x ∷ xs)) h = values_behind one (part ∷ []) 0 x xs

values_longer : {X : Type 0} (one part : ℕ) (x : Second X) (xs : List (Second X)) → All HasMembers (x ∷ xs) → values_of (parts_in (coded_seconds (one ∷ []) part (x ∷ xs))) ≡ one + 1
values_longer one part x [] h = omega (arith, values_of_both (one ∷ []) part x [], values_second_behind one part x (closed_head x [] h))
values_longer one part x (y ∷ ys) h = omega (arith, values_of_both (one ∷ []) part x (y ∷ ys), values_second_behind one part x (closed_head x (y ∷ ys) h), values_longer one (suc part) y ys (closed_tail x (y ∷ ys) h))

values_split : {X : Type 0} (p : Productions X) → values_of (codes p) ≡ max (values_of (parts_in (coded_from [] 0 p.firsts))) (values_of (parts_in (coded_seconds (length p.firsts ∷ []) 0 p.seconds)))
values_split {X} p = ap values_of (map-append (λ (c : Coded X). c.parts) (coded_from [] 0 p.firsts) (coded_seconds (length p.firsts ∷ []) 0 p.seconds)) ∙ values-append (parts_in (coded_from [] 0 p.firsts)) (parts_in (coded_seconds (length p.firsts ∷ []) 0 p.seconds))

values_first : {X : Type 0} (firsts : List X) (seconds : List (Second X)) → All HasMembers seconds → values_of (codes (record { firsts = firsts; seconds = seconds })) ≡ length firsts + longer seconds
values_first firsts [] h = omega (arith, values_split (record { firsts = firsts; seconds = [] }), values_from 0 firsts)
values_first firsts (x ∷ xs) h = omega (arith, values_split (record { firsts = firsts; seconds = x ∷ xs }), values_from 0 firsts, values_longer (length firsts) 0 x xs h)

-- the first part has as many values as the reading asks of it
pub first_count : {X : Type 0} (p : Productions X) → IsClosedUp p → values_of (codes p) ≡ first_values p
first_count p h = values_first p.firsts p.seconds h

-- ---- what is left of the codes behind a part
pub going-append : (part : ℕ) (xs ys : List (List ℕ)) → going_on part (xs ++ ys) ≡ going_on part xs ++ going_on part ys
going-append part [] ys = refl
going-append part ([] ∷ xs) ys = going-append part xs ys
going-append part ((one ∷ more) ∷ xs) ys = elim (eqb part one) as (λ b. cond b (more ∷ going_on part (xs ++ ys)) (going_on part (xs ++ ys)) ≡ cond b (more ∷ going_on part xs) (going_on part xs) ++ going_on part ys) [
  | true ↦ ap (λ (z : List (List ℕ)). more ∷ z) (going-append part xs ys)
  | false ↦ going-append part xs ys
]

-- none begins with another part
going_apart : {X : Type 0} (part one : ℕ) (front : List ℕ) (k : ℕ) (xs : List X) → part ≢ one → going_on part (parts_in (coded_from (one ∷ front) k xs)) ≡ []
going_apart part one front k [] h = refl
going_apart part one front k (x ∷ xs) h = rw (ne_eqb part one h) (going_apart part one front (suc k) xs h)

-- all begin with the part
going_into : {X : Type 0} (one : ℕ) (front : List ℕ) (k : ℕ) (xs : List X) → going_on one (parts_in (coded_from (one ∷ front) k xs)) ≡ parts_in (coded_from front k xs)
going_into one front k [] = refl
going_into one front k (x ∷ xs) = rw (eq-eqb one one refl) (ap (λ (z : List (List ℕ)). (front ++ k ∷ []) ∷ z) (going_into one front (suc k) xs))

-- codes of one part leave nothing behind a greater part
going_past : {X : Type 0} (part k : ℕ) (xs : List X) → k + length xs ≤ part → going_on part (parts_in (coded_from [] k xs)) ≡ []
going_past part k [] h = refl
going_past part k (x ∷ xs) h =
    let e : part ≢ k = λ e. omega arith in
    rw (ne_eqb part k e) (going_past part (suc k) xs (omega arith))

pub going_both : {X : Type 0} (part : ℕ) (front : List ℕ) (k : ℕ) (x : Second X) (xs : List (Second X)) → going_on part (parts_in (coded_seconds front k (x ∷ xs))) ≡ going_on part (parts_in (coded_second front k x)) ++ going_on part (parts_in (coded_seconds front (suc k) xs))
going_both {X} part front k x xs = ap (going_on part) (map-append (λ (c : Coded X). c.parts) (coded_second front k x) (coded_seconds front (suc k) xs)) ∙ going-append part (parts_in (coded_second front k x)) (parts_in (coded_seconds front (suc k) xs))

going_second_into : {X : Type 0} (one : ℕ) (front : List ℕ) (k : ℕ) (x : Second X) → going_on one (parts_in (coded_second (one ∷ front) k x)) ≡ parts_in (coded_second front k x)
going_second_into one front k (single x) = rw (eq-eqb one one refl) refl
going_second_into one front k (group xs) = going_into one (front ++ k ∷ []) 0 xs

going_seconds_into : {X : Type 0} (one : ℕ) (front : List ℕ) (k : ℕ) (xs : List (Second X)) → going_on one (parts_in (coded_seconds (one ∷ front) k xs)) ≡ parts_in (coded_seconds front k xs)
going_seconds_into one front k [] = refl
going_seconds_into {X} one front k (x ∷ xs) =
    going_both one (one ∷ front) k x xs ∙ ap (λ (z : List (List ℕ)). z ++ going_on one (parts_in (coded_seconds (one ∷ front) (suc k) xs))) (going_second_into one front k x)
    ∙ ap (λ (z : List (List ℕ)). parts_in (coded_second front k x) ++ z) (going_seconds_into one front (suc k) xs)
    ∙ sym (map-append (λ (c : Coded X). c.parts) (coded_second front k x) (coded_seconds front (suc k) xs))

going_second_apart : {X : Type 0} (part k : ℕ) (x : Second X) → part ≢ k → going_on part (parts_in (coded_second [] k x)) ≡ []
going_second_apart part k (single x) h = rw (ne_eqb part k h) refl
going_second_apart part k (group xs) h = going_apart part k [] 0 xs h

going_before : {X : Type 0} (part k : ℕ) (xs : List (Second X)) → part < k → going_on part (parts_in (coded_seconds [] k xs)) ≡ []
going_before part k [] h = refl
going_before part k (x ∷ xs) h =
    let e : part ≢ k = λ e. omega arith in
    going_both part [] k x xs ∙ ap (λ (z : List (List ℕ)). z ++ going_on part (parts_in (coded_seconds [] (suc k) xs))) (going_second_apart part k x e) ∙ going_before part (suc k) xs (omega arith)

-- behind the first part of all longer codes there are the second parts
pub going_longer : {X : Type 0} (p : Productions X) → going_on (length p.firsts) (codes p) ≡ parts_in (coded_seconds [] 0 p.seconds)
going_longer {X} p =
    ap (going_on (length p.firsts)) (map-append (λ (c : Coded X). c.parts) (coded_from [] 0 p.firsts) (coded_seconds (length p.firsts ∷ []) 0 p.seconds))
    ∙ going-append (length p.firsts) (parts_in (coded_from [] 0 p.firsts)) (parts_in (coded_seconds (length p.firsts ∷ []) 0 p.seconds))
    ∙ ap (λ (z : List (List ℕ)). z ++ going_on (length p.firsts) (parts_in (coded_seconds (length p.firsts ∷ []) 0 p.seconds))) (going_past (length p.firsts) 0 p.firsts (omega arith))
    ∙ going_seconds_into (length p.firsts) [] 0 p.seconds

-- behind the second part of a group there are its members
pub going_group : {X : Type 0} (k : ℕ) (xs : List (Second X)) (j : ℕ) (ys : List X) → slice_get xs j ≡ Some (group ys) → going_on (k + j) (parts_in (coded_seconds [] k xs)) ≡ parts_in (coded_from [] 0 ys)
going_group k [] j ys e = absurd cc
going_group {X} k (x ∷ xs) zero ys e =
    let p : k + 0 ≡ k = omega arith in
    let q : x ≡ group ys = some_is x (group ys) e in
    ap (λ (m : ℕ). going_on m (parts_in (coded_seconds [] k (x ∷ xs)))) p
    ∙ going_both k [] k x xs
    ∙ ap (λ (z : List (List ℕ)). going_on k (parts_in (coded_second [] k x)) ++ z) (going_before k (suc k) xs (omega arith))
    ∙ append-nil (going_on k (parts_in (coded_second [] k x)))
    ∙ ap (λ (z : Second X). going_on k (parts_in (coded_second [] k z))) q
    ∙ going_into k [] 0 ys
going_group k (x ∷ xs) (suc j) ys e =
    let p : k + suc j ≡ suc k + j = omega arith in
    let q : k + suc j ≢ k = λ e. omega arith in
    going_both (k + suc j) [] k x xs
    ∙ ap (λ (z : List (List ℕ)). z ++ going_on (k + suc j) (parts_in (coded_seconds [] (suc k) xs))) (going_second_apart (k + suc j) k x q)
    ∙ ap (λ (m : ℕ). going_on m (parts_in (coded_seconds [] (suc k) xs))) p
    ∙ going_group (suc k) xs j ys e
