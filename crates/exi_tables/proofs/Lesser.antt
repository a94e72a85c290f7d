-- The least among the places of a hash is the least among all.
use Rattle.std.proofs.Common.{◌≡◌, ℕ, zero, suc, ◌≤◌, ◌&&◌, ◌||◌, min, Bool, true, false, List, [], ◌∷◌, get_or, length, Option, Some, None, refl, sym, ap, ◌∙◌, arith, inl, inr, true≢false}
use Rattle.std.specs.Prelude.{position, slice_get}
use Rattle.std.specs.Str.{bytes_eq}
use Rattle.std.specs.Ordering.{is_eq, nat_cmp}
use Rattle.std.proofs.lemmas.Bool.{cases_Bool, cases_lt, eqb-true}
use Rattle.std.proofs.lemmas.List.Quantifiers.{position-Some}
use Rattle.std.proofs.lemmas.Option.{get_or_from_slice_get, slice_get-get_or}
use Rattle.exi_names.specs.NameMaps.{same_name}
use Rattle.exi_names.specs.declared.names.NameId.{NameId}
use Rattle.exi_tables.specs.declared.live.Live.{Live}
use Rattle.exi_tables.specs.Kept.{has_text, least_of, lesser, local_of, place_of}
use Rattle.exi_tables.specs.Spots.{SpotSet, holds, is_spot}
use Rattle.exi_tables.specs.Values.{is_value, least_under, or_less}
use Rattle.exi_tables.proofs.Found.{not_absent}
use Rattle.exi_tables.proofs.Looked.{Lists}
use Rattle.exi_tables.proofs.SpotSets.{eq_tests}

some_is : {X : Type 0} (a b : X) → Some a ≡ Some b → a ≡ b
some_is a b e = cc

none_some : {X : Type 0} (x : X) → None ≡ Some x → ⊥
none_some x e = absurd cc

-- what a place tells: the place under the name, or the place itself
abbrev pub own_told : NameId → List ℕ → List Live → ℕ → Option ℕ
own_told name text live place = local_of name text (slice_get live place)

abbrev pub all_told : List ℕ → List Live → ℕ → Option ℕ
all_told text live place = place_of text place (slice_get live place)

-- ---- the lesser of two
pub lesser_swap : (a b c : Option ℕ) → lesser (lesser a b) c ≡ lesser b (lesser a c)
lesser_swap None b c = refl
lesser_swap (Some x) None c = refl
lesser_swap (Some x) (Some y) None = (let e : min x y ≡ min y x = omega arith in ap (λ (n : ℕ). Some n) e)
lesser_swap (Some x) (Some y) (Some z) = (let e : min (min x y) z ≡ min y (min x z) = omega arith in ap (λ (n : ℕ). Some n) e)

pub lesser_none : (a : Option ℕ) → lesser a None ≡ a
lesser_none None = refl
lesser_none (Some x) = refl

less_than : (a : ℕ) (o : Option ℕ) → or_less a o ≤ a
less_than a None = omega arith
less_than a (Some b) = omega arith

one_of_two : (told : Option ℕ) (rest : Option ℕ) (m : ℕ) → lesser told rest ≡ Some m → ((told ≡ Some m) → ⊥) → rest ≡ Some m
one_of_two None rest m e never = e
one_of_two (Some a) None m e never = absurd (never e)
one_of_two (Some a) (Some b) m e never =
    let is : min a b ≡ m = some_is (min a b) m e in
    elim (cases_lt a b) [
      | inl less ↦ (let a_is : a ≡ m = omega (arith, is, less) in absurd (never (ap (λ (n : ℕ). Some n) a_is)))
      | inr more ↦ (let b_is : b ≡ m = omega (arith, is, more) in ap (λ (n : ℕ). Some n) b_is)
    ]

-- ---- among the places told of
module _ (told : ℕ → Option ℕ) where
  -- none is told below the least
  pub is_below : (ps : List ℕ) (p l : ℕ) → holds ps p ≡ true → told p ≡ Some l → (m : ℕ) × (least_of told ps ≡ Some m) × (m ≤ l)
  is_below [] p l h e = absurd (true≢false (sym h))
  is_below (q ∷ qs) p l h e = elim (cases_Bool (is_eq (nat_cmp p q))) [
    | inl yes_is ↦
        let is : p ≡ q = eqb-true p q (sym (eq_tests p q) ∙ yes_is) in
        let here : told q ≡ Some l = ap told (sym is) ∙ e in
        (or_less l (least_of told qs), ap (λ o. lesser o (least_of told qs)) here, less_than l (least_of told qs))
    | inr no_is ↦
        let rest = is_below qs p l (rw no_is at h) e in
        past (told q) rest.0 rest.1 rest.2
  ]
    where
      past : (o : Option ℕ) (m : ℕ) → least_of told qs ≡ Some m → m ≤ l → (k : ℕ) × (lesser o (least_of told qs) ≡ Some k) × (k ≤ l)
      past None m at below = (m, at, below)
      past (Some x) m at below = (let less : min x m ≤ l = omega (arith, below) in (min x m, ap (lesser (Some x)) at, less))

  -- where nothing is told, there is no least
  pub none_told : (ps : List ℕ) (m : ℕ) → least_of told ps ≡ Some m → ((p : ℕ) → told p ≡ Some m → ⊥) → ⊥
  none_told [] m e never = none_some m e
  none_told (q ∷ qs) m e never = none_told qs m (one_of_two (told q) (least_of told qs) m e (never q)) never

-- one place after another
pub walks_on : (told : ℕ → Option ℕ) (before rest : List ℕ) (place : ℕ) (o new all : Option ℕ) → before ≡ place ∷ rest → new ≡ lesser (told place) o →
    lesser o (least_of told before) ≡ all → lesser new (least_of told rest) ≡ all
walks_on told before rest place o new all parts is so_far =
    ap (λ n. lesser n (least_of told rest)) is ∙ lesser_swap (told place) o (least_of told rest) ∙ ap (λ ps. lesser o (least_of told ps)) (sym parts) ∙ so_far

pub walk_ends : (told : ℕ → Option ℕ) (rest : List ℕ) (o all : Option ℕ) → rest ≡ [] → lesser o (least_of told rest) ≡ all → o ≡ all
walk_ends told rest o all none so_far = sym (lesser_none o) ∙ ap (λ ps. lesser o (least_of told ps)) (sym none) ∙ so_far

spot_holds : (spots : SpotSet) (p : ℕ) → is_spot spots p ≡ true → holds (spots.least ∷ spots.more) p ≡ true
spot_holds spots p h = ap (λ b. b || holds spots.more p) (eq_tests p spots.least) ∙ h

-- two that are least, each told of wherever the other is, are the same
same_least : (a b : Option ℕ) → ((m : ℕ) → a ≡ Some m → (k : ℕ) × (b ≡ Some k) × (k ≤ m)) → ((m : ℕ) → b ≡ Some m → (k : ℕ) × (a ≡ Some k) × (k ≤ m)) → a ≡ b
same_least None None to from = refl
same_least None (Some m) to from = (let f = from m refl in absurd (none_some f.0 f.1))
same_least (Some m) None to from = (let t = to m refl in absurd (none_some t.0 t.1))
same_least (Some m) (Some k) to from =
    let t = to m refl in
    let f = from k refl in
    let ti : k ≡ t.0 = some_is k t.0 t.1 in
    let fi : m ≡ f.0 = some_is m f.0 f.1 in
    let is : m ≡ k = omega (arith, ti, fi, t.2, f.2) in ap (λ (n : ℕ). Some n) is

both : (a b : Bool) → (a && b) ≡ true → (a ≡ true) × (b ≡ true)
both true b h = (refl, h)
both false b h = absurd cc

-- ---- under a name
module _ (name : NameId) (text : List ℕ) where
  abbrev UnderBelow : List Live → Live → Type 0
  UnderBelow live l = (m : ℕ) × (least_under name text live ≡ Some m) × (m ≤ l.local)

  below_here : (x : Live) (xs : List Live) (l : Live) → x ≡ l → is_value name text l ≡ true → UnderBelow (x ∷ xs) l
  below_here x xs l is ok =
      let less : or_less x.local (least_under name text xs) ≤ l.local = omega (arith, less_than x.local (least_under name text xs), ap (λ (y : Live). y.local) is) in
      let yes_is : is_value name text x ≡ true = ap (is_value name text) is ∙ ok in
      (or_less x.local (least_under name text xs), rw yes_is refl, less)

  below_more : (x : Live) (xs : List Live) (l : Live) → UnderBelow xs l → UnderBelow (x ∷ xs) l
  below_more x xs l rest = elim (cases_Bool (is_value name text x)) [
    | inl yes_is ↦
        let less : min x.local rest.0 ≤ l.local = omega (arith, rest.2) in
        (min x.local rest.0, rw yes_is (ap (λ o. Some (or_less x.local o)) rest.1), less)
    | inr no_is ↦ (rest.0, rw no_is rest.1, rest.2)
  ]

  pub under_below : (live : List Live) (i : ℕ) (l : Live) → slice_get live i ≡ Some l → is_value name text l ≡ true → UnderBelow live l
  under_below [] i l at ok = absurd (none_some l at)
  under_below (x ∷ xs) zero l at ok = below_here x xs l (some_is x l at) ok
  under_below (x ∷ xs) (suc i) l at ok = below_more x xs l (under_below xs i l at ok)

  abbrev UnderFound : List Live → ℕ → Type 0
  UnderFound live m = (i : ℕ) × (l : Live) × (slice_get live i ≡ Some l) × (is_value name text l ≡ true) × (l.local ≡ m)

  found_more : (x : Live) (xs : List Live) (m : ℕ) → UnderFound xs m → UnderFound (x ∷ xs) m
  found_more x xs m rest = (suc rest.0, rest.1, rest.2, rest.3, rest.4)

  found_here : (x : Live) (xs : List Live) (m : ℕ) → ((k : ℕ) → least_under name text xs ≡ Some k → UnderFound xs k) → is_value name text x ≡ true →
      (o : Option ℕ) → least_under name text xs ≡ o → Some (or_less x.local o) ≡ Some m → UnderFound (x ∷ xs) m
  found_here x xs m later yes_is None rest_is found = (0, x, refl, yes_is, some_is x.local m found)
  found_here x xs m later yes_is (Some k) rest_is found =
      let is : min x.local k ≡ m = some_is (min x.local k) m found in
      elim (cases_lt x.local k) [
        | inl less ↦ (let x_is : x.local ≡ m = omega (arith, is, less) in (0, x, refl, yes_is, x_is))
        | inr more ↦ (let k_is : k ≡ m = omega (arith, is, more) in found_more x xs m (later m (rest_is ∙ ap (λ (n : ℕ). Some n) k_is)))
      ]

  pub under_found : (live : List Live) (m : ℕ) → least_under name text live ≡ Some m → UnderFound live m
  under_found [] m e = absurd (none_some m e)
  under_found (x ∷ xs) m e = elim (cases_Bool (is_value name text x)) [
    | inl yes_is ↦ found_here x xs m (λ k there. under_found xs k there) yes_is (least_under name text xs) refl (rw yes_is at e)
    | inr no_is ↦ found_more x xs m (under_found xs m (rw no_is at e))
  ]

  module _ (live : List Live) (spots : SpotSet) (lists : Lists live spots text) where
    abbrev told : ℕ → Option ℕ
    told = own_told name text live

    told_at : (i : ℕ) (l : Live) → slice_get live i ≡ Some l → is_value name text l ≡ true → told i ≡ Some l.local
    told_at i l at ok = ap (local_of name text) at ∙ rw ok refl

    -- whatever is told stands there
    told_of : (o : Option Live) (m : ℕ) → local_of name text o ≡ Some m → (l : Live) × (o ≡ Some l) × (is_value name text l ≡ true) × (l.local ≡ m)
    told_of None m e = absurd (none_some m e)
    told_of (Some l) m e = elim (cases_Bool (is_value name text l)) [
      | inl yes_is ↦ (l, refl, yes_is, some_is l.local m (rw yes_is at e))
      | inr no_is ↦ absurd (none_some m (rw no_is at e))
    ]

    pub own_least : least_of told (spots.least ∷ spots.more) ≡ least_under name text live
    own_least = same_least (least_of told (spots.least ∷ spots.more)) (least_under name text live) to from
      where
        from : (m : ℕ) → least_under name text live ≡ Some m → (k : ℕ) × (least_of told (spots.least ∷ spots.more) ≡ Some k) × (k ≤ m)
        from m e =
            let f = under_found live m e in
            let spot : is_spot spots f.0 ≡ true = lists f.0 f.1 f.2 (both (same_name name f.1.name) (bytes_eq f.1.text text) f.3).1 in
            is_below told (spots.least ∷ spots.more) f.0 m (spot_holds spots f.0 spot) (told_at f.0 f.1 f.2 f.3 ∙ ap (λ (n : ℕ). Some n) f.4)

        known : (o : Option ℕ) → least_under name text live ≡ o → (m : ℕ) → least_of told (spots.least ∷ spots.more) ≡ Some m → (k : ℕ) × (o ≡ Some k) × (k ≤ m)
        known None none m e = absurd (none_told told (spots.least ∷ spots.more) m e (λ p there.
            let t = told_of (slice_get live p) m there in
            let u = under_below live p t.0 t.1 t.2 in none_some u.0 (sym none ∙ u.1)))
        known (Some k) some m e = elim (cases_lt m k) [
          | inl less ↦ absurd (none_told told (spots.least ∷ spots.more) m e (λ p there.
              let t = told_of (slice_get live p) m there in
              let u = under_below live p t.0 t.1 t.2 in
              let is : k ≡ u.0 = some_is k u.0 (sym some ∙ u.1) in
              absurd (omega (arith, is, u.2, t.3, less))))
          | inr more ↦ (k, refl, more)
        ]

        to : (m : ℕ) → least_of told (spots.least ∷ spots.more) ≡ Some m → (k : ℕ) × (least_under name text live ≡ Some k) × (k ≤ m)
        to m e = known (least_under name text live) refl m e

-- ---- among all
module _ (text : List ℕ) (live : List Live) (spots : SpotSet) (lists : Lists live spots text) where
  abbrev placed : ℕ → Option ℕ
  placed = all_told text live

  abbrev stands : Live → Bool
  stands l = bytes_eq l.text text

  placed_of : (p : ℕ) (o : Option Live) (m : ℕ) → place_of text p o ≡ Some m → (l : Live) × (o ≡ Some l) × (stands l ≡ true) × (p ≡ m)
  placed_of p None m e = absurd (none_some m e)
  placed_of p (Some l) m e = elim (cases_Bool (bytes_eq l.text text)) [
    | inl yes_is ↦ (l, refl, yes_is, some_is p m (rw yes_is at e))
    | inr no_is ↦ absurd (none_some m (rw no_is at e))
  ]

  placed_at : (i : ℕ) (l : Live) → slice_get live i ≡ Some l → stands l ≡ true → placed i ≡ Some i
  placed_at i l at ok = ap (place_of text i) at ∙ rw ok refl

  -- no place that has it stands before the first
  first_below : (o : Option ℕ) → position stands live ≡ o → (i : ℕ) (l : Live) → slice_get live i ≡ Some l → stands l ≡ true → (k : ℕ) × (o ≡ Some k) × (k ≤ i)
  first_below None e i l at ok = absurd (not_absent stands live i l at ok e)
  first_below (Some k) e i l at ok =
      let d = position-Some stands live k l e in
      elim (cases_lt i k) [
        | inl before ↦ absurd (true≢false (sym ok ∙ ap stands (sym (get_or_from_slice_get live i l l at)) ∙ d.2 i before))
        | inr not_before ↦ (k, refl, not_before)
      ]

  pub all_least : least_of placed (spots.least ∷ spots.more) ≡ position stands live
  all_least = same_least (least_of placed (spots.least ∷ spots.more)) (position stands live) to from
    where
      from : (m : ℕ) → position stands live ≡ Some m → (k : ℕ) × (least_of placed (spots.least ∷ spots.more) ≡ Some k) × (k ≤ m)
      from m e = by (slice_get live m) refl
        where
          by : (o : Option Live) → slice_get live m ≡ o → (k : ℕ) × (least_of placed (spots.least ∷ spots.more) ≡ Some k) × (k ≤ m)
          by None none = absurd (no_item live e none)
            where
              no_item : (xs : List Live) → position stands xs ≡ Some m → slice_get xs m ≡ None → ⊥
              no_item [] found past = none_some m found
              no_item (y ∷ ys) found past = (let d = position-Some stands (y ∷ ys) m y found in none_some (get_or (y ∷ ys) m y) (sym past ∙ slice_get-get_or (y ∷ ys) m y d.0))
          by (Some l) at =
              let d = position-Some stands live m l e in
              let ok : stands l ≡ true = ap stands (sym (get_or_from_slice_get live m l l at)) ∙ d.1 in
              is_below placed (spots.least ∷ spots.more) m m (spot_holds spots m (lists m l at ok)) (placed_at m l at ok)

      known : (o : Option ℕ) → position stands live ≡ o → (m : ℕ) → least_of placed (spots.least ∷ spots.more) ≡ Some m → (k : ℕ) × (o ≡ Some k) × (k ≤ m)
      known None none m e = absurd (none_told placed (spots.least ∷ spots.more) m e (λ p there.
          let t = placed_of p (slice_get live p) m there in
          let u = first_below None none p t.0 t.1 t.2 in none_some u.0 u.1))
      known (Some k) some m e = elim (cases_lt m k) [
        | inl less ↦ absurd (none_told placed (spots.least ∷ spots.more) m e (λ p there.
            let t = placed_of p (slice_get live p) m there in
            let u = first_below (Some k) some p t.0 t.1 t.2 in
            let is : k ≡ u.0 = some_is k u.0 u.1 in
            absurd (omega (arith, is, u.2, t.3, less))))
        | inr more ↦ (k, refl, more)
      ]

      to : (m : ℕ) → least_of placed (spots.least ∷ spots.more) ≡ Some m → (k : ℕ) × (position stands live ≡ Some k) × (k ≤ m)
      to m e = known (position stands live) refl m e

  -- where none stands at the least, it is among the others
  pub others_least : has_text text (slice_get live spots.least) ≡ false → least_of placed spots.more ≡ position stands live
  others_least not_there =
      let nothing : placed spots.least ≡ None = rw not_there refl in
      ap (λ o. lesser o (least_of placed spots.more)) (sym nothing) ∙ all_least

-- the least of those of which there is one
only_told : (told : ℕ → Option ℕ) (place : ℕ) (more : List ℕ) → length more ≡ 0 → told place ≡ least_of told (place ∷ more)
only_told told place [] none = sym (lesser_none (told place))
only_told told place (q ∷ more) none = absurd (omega (arith, none))

pub own_alone : (name : NameId) (text : List ℕ) (live : List Live) (spots : SpotSet) → Lists live spots text → length spots.more ≡ 0
    → own_told name text live spots.least ≡ least_under name text live
own_alone name text live spots lists none = only_told (own_told name text live) spots.least spots.more none ∙ own_least name text live spots lists
