-- What is found among live values, and what is not.
use Rattle.std.proofs.Common.{◌≡◌, ◌≢◌, ℕ, zero, suc, ◌<◌, ◌≤◌, Bool, not, true, ltb, List, [], ◌∷◌, length, get_or, Option, Some, None, refl, sym, ap, ◌∙◌, arith, inl, inr, true≢false}
use Rattle.std.specs.Prelude.{find, position, slice_get, option_map}
use Rattle.std.specs.List.{prefix_len}
use Rattle.std.proofs.lemmas.Bool.{cases_Bool, cases_lt, lt-ltb}
use Rattle.std.proofs.lemmas.List.Quantifiers.{position-Some}
use Rattle.std.proofs.lemmas.Option.{slice_get-get_or, slice_get_within, get_or_from_slice_get}
use Rattle.exi_names.specs.declared.names.NameId.{NameId}
use Rattle.exi_tables.specs.declared.live.Live.{Live}
use Rattle.exi_tables.specs.Values.{is_value, least_under, put_at, stands_under, text_under}
use Rattle.exi_tables.proofs.Least.{prefix_below}

some_is : {X : Type 0} (a b : X) → Some a ≡ Some b → a ≡ b
some_is a b e = cc

none_some : {X : Type 0} (x : X) → None ≡ Some x → ⊥
none_some x e = absurd cc

-- ---- the first that passes
module _ {X : Type 0} (p : X → Bool) where
  -- it passes, and it stands somewhere
  pub found : (xs : List X) (x : X) → find p xs ≡ Some x → (i : ℕ) × (slice_get xs i ≡ Some x) × (p x ≡ true)
  found [] x e = absurd (none_some x e)
  found (y ∷ ys) x e = elim (cases_Bool (p y)) [
    | inl yes_is ↦ let is : y ≡ x = some_is y x (rw yes_is at e) in (0, ap (λ z. Some z) is, ap p (sym is) ∙ yes_is)
    | inr no_is ↦ let rest = found ys x (rw no_is at e) in (suc rest.0, rest.1, rest.2)
  ]

  -- where none is found, none passes
  pub none_passes : (xs : List X) → find p xs ≡ None → (i : ℕ) (x : X) → slice_get xs i ≡ Some x → p x ≡ true → ⊥
  none_passes [] e i x at passes = none_some x at
  none_passes (y ∷ ys) e zero x at passes = let is : y ≡ x = some_is y x at in none_some y (sym (rw (ap p is ∙ passes) at e))
  none_passes (y ∷ ys) e (suc i) x at passes = elim (cases_Bool (p y)) [
    | inl yes_is ↦ none_some y (sym (rw yes_is at e))
    | inr no_is ↦ none_passes ys (rw no_is at e) i x at passes
  ]

  an_item : (ys : List X) (i : ℕ) → position p ys ≡ Some i → (X → ⊥) → ⊥
  an_item [] i e never = none_some i e
  an_item (y ∷ ys) i e never = never y

  -- where none passes, there is no place
  pub no_position : (xs : List X) → ((i : ℕ) (x : X) → slice_get xs i ≡ Some x → p x ≡ true → ⊥) → position p xs ≡ None
  no_position xs never = by (position p xs) refl
    where
      by : (o : Option ℕ) → position p xs ≡ o → o ≡ None
      by None e = refl
      by (Some i) e = absurd (an_item xs i e (λ d. (let at = position-Some p xs i d e in never i (get_or xs i d) (slice_get-get_or xs i d at.0) at.1)))

  -- where one passes, there is a place
  pub not_absent : (xs : List X) (i : ℕ) (x : X) → slice_get xs i ≡ Some x → p x ≡ true → position p xs ≡ None → ⊥
  not_absent xs i x at ok none =
      let inside : i < length xs = slice_get_within xs i x at in
      let passes : p (get_or xs i x) ≡ true = ap p (get_or_from_slice_get xs i x x at) ∙ ok in
      let below : ltb (prefix_len (λ y. not (p y)) xs) (length xs) ≡ true = lt-ltb (prefix_len (λ y. not (p y)) xs) (length xs) (prefix_below p xs i x inside passes) in
      none_some (prefix_len (λ y. not (p y)) xs) (sym (rw below at none))

  -- the first place that passes
  pub position_at : (xs : List X) (i : ℕ) (x : X) → slice_get xs i ≡ Some x → p x ≡ true → ((j : ℕ) (y : X) → slice_get xs j ≡ Some y → p y ≡ true → i ≤ j) → position p xs ≡ Some i
  position_at xs i x at passes least = by (position p xs) refl
    where
      by : (o : Option ℕ) → position p xs ≡ o → o ≡ Some i
      by None e = absurd (not_absent xs i x at passes e)
      by (Some k) e =
          let d = position-Some p xs k x e in
          let not_later : i ≤ k = least k (get_or xs k x) (slice_get-get_or xs k x d.0) d.1 in
          elim (cases_lt i k) [
            | inl before ↦ absurd (true≢false (sym passes ∙ ap p (sym (get_or_from_slice_get xs i x x at)) ∙ d.2 i before))
            | inr same ↦ (let is : k ≡ i = omega (arith, not_later, same) in ap (λ (n : ℕ). Some n) is)
          ]

-- ---- the least place under a name
module _ (name : NameId) (text : List ℕ) where
  -- where there is none
  pub no_least : (live : List Live) → ((i : ℕ) (l : Live) → slice_get live i ≡ Some l → is_value name text l ≡ true → ⊥) → least_under name text live ≡ None
  no_least [] never = refl
  no_least (l ∷ more) never = elim (cases_Bool (is_value name text l)) [
    | inl yes_is ↦ absurd (never 0 l refl yes_is)
    | inr no_is ↦ rw no_is (no_least more (λ i x at ok. never (suc i) x at ok))
  ]

  -- where there is one
  pub one_least : (live : List Live) (i : ℕ) (l : Live) → slice_get live i ≡ Some l → is_value name text l ≡ true → ((j : ℕ) (m : Live) → slice_get live j ≡ Some m → is_value name text m ≡ true → j ≡ i) → least_under name text live ≡ Some l.local
  one_least [] i l at ok only = absurd (none_some l at)
  one_least (m ∷ more) zero l at ok only =
      let is : m ≡ l = some_is m l at in
      let rest : least_under name text more ≡ None = no_least more (λ j x there passes. absurd (let e : suc j ≡ 0 = only (suc j) x there passes in omega (arith, e))) in
      rw (ap (is_value name text) is ∙ ok, rest) (ap (λ (x : Live). Some x.local) is)
  one_least (m ∷ more) (suc i) l at ok only =
      let rest : least_under name text more ≡ Some l.local = one_least more i l at ok (λ j x there passes. (let e : suc j ≡ suc i = only (suc j) x there passes in omega (arith, e))) in
      elim (cases_Bool (is_value name text m)) [
        | inl yes_is ↦ absurd (let e : 0 ≡ suc i = only 0 m refl yes_is in omega (arith, e))
        | inr no_is ↦ rw no_is rest
      ]

-- ---- the live value at a place under a name
pub no_text : (name : NameId) (place : ℕ) (live : List Live) → ((i : ℕ) (l : Live) → slice_get live i ≡ Some l → stands_under name place l ≡ true → ⊥) → None ≡ text_under name live place
no_text name place live never = by (find (stands_under name place) live) refl
  where
    by : (o : Option Live) → find (stands_under name place) live ≡ o → None ≡ option_map (λ (l : Live). l.text) o
    by None e = refl
    by (Some l) e = (let at = found (stands_under name place) live l e in absurd (never at.0 l at.1 at.2))

pub one_text : (name : NameId) (place : ℕ) (live : List Live) (i : ℕ) (l : Live) → slice_get live i ≡ Some l → stands_under name place l ≡ true →
    ((j : ℕ) (m : Live) → slice_get live j ≡ Some m → stands_under name place m ≡ true → j ≡ i) → Some l.text ≡ text_under name live place
one_text name place live i l here ok only = by (find (stands_under name place) live) refl
  where
    by : (o : Option Live) → find (stands_under name place) live ≡ o → Some l.text ≡ option_map (λ (m : Live). m.text) o
    by None e = absurd (none_passes (stands_under name place) live e i l here ok)
    by (Some m) e =
        let at = found (stands_under name place) live m e in
        let same : Some l ≡ Some m = sym here ∙ ap (slice_get live) (sym (only at.0 m at.1 at.2)) ∙ at.1 in
        ap (λ (o : Option Live). option_map (λ (x : Live). x.text) o) same

-- ---- a value put at its place
pub get_put_here : {X : Type 0} (place : ℕ) (x : X) (xs : List X) → place ≤ length xs → slice_get (put_at place x xs) place ≡ Some x
get_put_here zero x [] within = refl
get_put_here (suc place) x [] within = absurd (omega (arith, within))
get_put_here zero x (y ∷ ys) within = refl
get_put_here (suc place) x (y ∷ ys) within = get_put_here place x ys (omega (arith, within))

pub get_put_other : {X : Type 0} (place : ℕ) (x : X) (xs : List X) (q : ℕ) → place ≤ length xs → q ≢ place → slice_get (put_at place x xs) q ≡ slice_get xs q
get_put_other zero x [] zero within apart = absurd (apart refl)
get_put_other zero x [] (suc q) within apart = refl
get_put_other (suc place) x [] q within apart = absurd (omega (arith, within))
get_put_other zero x (y ∷ ys) zero within apart = absurd (apart refl)
get_put_other zero x (y ∷ ys) (suc q) within apart = refl
get_put_other (suc place) x (y ∷ ys) zero within apart = refl
get_put_other (suc place) x (y ∷ ys) (suc q) within apart = get_put_other place x ys q (omega (arith, within)) (λ e. apart (ap suc e))
