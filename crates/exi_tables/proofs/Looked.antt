-- What is found by hash is what is found by walking.
use Rattle.std.proofs.Common.{◌≡◌, ℕ, ◌≤◌, ◌&&◌, Bool, true, false, List, Option, Some, None, refl, sym, ap, ◌∙◌, true≢false}
use Rattle.std.specs.Prelude.{option_and_then, position, slice_get, nat_eq}
use Rattle.std.specs.Map.{lookup}
use Rattle.std.specs.Str.{bytes_eq}
use Rattle.std.proofs.lemmas.Bool.{eqb-true}
use Rattle.std.proofs.lemmas.Slice.Eq.{bytes_eq-Decides}
use Rattle.exi_names.specs.NameMaps.{same_name}
use Rattle.exi_names.specs.declared.names.NameId.{NameId}
use Rattle.exi_tables.specs.declared.live.Live.{Live}
use Rattle.exi_tables.specs.Kept.{IsListed, IsOwned, Row, givens, has_text, kept_place, kept_under, text_hash}
use Rattle.exi_tables.specs.Spots.{SpotSet, in_spots, is_listed, is_spot}
use Rattle.exi_tables.specs.Values.{least_under, name_place, stands_under, text_under}
use Rattle.exi_tables.proofs.Found.{no_least, no_position, no_text, one_text, position_at}
use Rattle.exi_tables.proofs.Given.{same_is}

some_live : (a b : Live) → Some a ≡ Some b → a ≡ b
some_live a b e = cc

some_place : (a b : ℕ) → Some a ≡ Some b → a ≡ b
some_place a b e = cc

no_live : (l : Live) → None ≡ Some l → ⊥
no_live l e = absurd cc

no_place : (i : ℕ) → None ≡ Some i → ⊥
no_place i e = absurd cc

both : (a b : Bool) → (a && b) ≡ true → (a ≡ true) × (b ≡ true)
both true b h = (refl, h)
both false b h = absurd cc

-- the place under the name is that of the value
pub stood : (name : NameId) (place : ℕ) (l : Live) → stands_under name place l ≡ true → (name ≡ l.name) × (place ≡ l.local)
stood name place l e =
    let parts = both (same_name name l.name) (nat_eq l.local place) e in
    (same_is name l.name parts.0, sym (eqb-true l.local place parts.1))

abbrev pub Lists : List Live → SpotSet → List ℕ → Type 0
Lists live spots text = (place : ℕ) (l : Live) → slice_get live place ≡ Some l → bytes_eq l.text text ≡ true → is_spot spots place ≡ true

-- ---- among the places of a hash
pub least_stands : (live : List Live) (spots : SpotSet) (text : List ℕ) → Lists live spots text → (least : ℕ) → has_text text (slice_get live least) ≡ true →
    ((q : ℕ) → is_spot spots q ≡ true → least ≤ q) → Some least ≡ position (λ l. bytes_eq l.text text) live
least_stands live spots text lists least stands below = by (slice_get live least) refl stands
  where
    by : (o : Option Live) → slice_get live least ≡ o → has_text text o ≡ true → Some least ≡ position (λ l. bytes_eq l.text text) live
    by None e h = absurd (true≢false (sym h))
    by (Some l) e h = sym (position_at (λ (m : Live). bytes_eq m.text text) live least l e h (λ j y there ok. below j (lists j y there ok)))

-- ---- through what is kept
module _ (live : List Live) (index : List (ℕ × SpotSet)) (c : IsListed live index) where
  in_hash : (text : List ℕ) (hash : ℕ) → hash ≡ text_hash text → (q : ℕ) (l : Live) → slice_get live q ≡ Some l → bytes_eq l.text text ≡ true → is_listed index hash q ≡ true
  in_hash text hash hash_is q l at ok =
      let is : l.text ≡ text = (bytes_eq-Decides l.text text).0 ok in
      ap (λ h. is_listed index h q) (hash_is ∙ ap text_hash (sym is)) ∙ c q l at

  pub lists_all : (text : List ℕ) (hash : ℕ) (spots : SpotSet) → hash ≡ text_hash text → Some spots ≡ lookup (nat_eq hash) index → Lists live spots text
  lists_all text hash spots hash_is found q l at ok = ap (λ o. in_spots o q) found ∙ in_hash text hash hash_is q l at ok

  pub never_listed : (text : List ℕ) (hash : ℕ) → hash ≡ text_hash text → None ≡ lookup (nat_eq hash) index → (q : ℕ) (l : Live) → slice_get live q ≡ Some l → bytes_eq l.text text ≡ true → ⊥
  never_listed text hash hash_is missing q l at ok = true≢false (sym (in_hash text hash hash_is q l at ok) ∙ ap (λ o. in_spots o q) (sym missing))

  pub no_hash : (text : List ℕ) (hash : ℕ) → hash ≡ text_hash text → None ≡ lookup (nat_eq hash) index → None ≡ position (λ l. bytes_eq l.text text) live
  no_hash text hash hash_is missing = sym (no_position (λ (m : Live). bytes_eq m.text text) live (never_listed text hash hash_is missing))

  pub no_own_hash : (name : NameId) (text : List ℕ) (hash : ℕ) → hash ≡ text_hash text → None ≡ lookup (nat_eq hash) index → None ≡ least_under name text live
  no_own_hash name text hash hash_is missing = sym (no_least name text live
      (λ i l at ok. never_listed text hash hash_is missing i l at (both (same_name name l.name) (bytes_eq l.text text) ok).1))

module _ (live : List Live) (rows : List Row) (c : IsOwned live rows) where
  -- the value that stands under the name at the place is found there
  owned_at : (name : NameId) (place : ℕ) (q : ℕ) (l : Live) → slice_get live q ≡ Some l → stands_under name place l ≡ true → kept_place rows name place ≡ Some q
  owned_at name place q l at ok =
      let is = stood name place l ok in
      ap (λ n. kept_place rows n place) is.0 ∙ ap (kept_place rows l.name) is.1 ∙ c.owned q l at

  pub not_owned : (name : NameId) (place : ℕ) → None ≡ kept_place rows name place → None ≡ text_under name live place
  not_owned name place missing = no_text name place live (λ q l at ok. no_place q (missing ∙ owned_at name place q l at ok))

  pub no_number : (name : NameId) (place : ℕ) → None ≡ name_place name (givens rows) → None ≡ text_under name live place
  no_number name place missing = not_owned name place (ap (λ o. kept_under (option_and_then (slice_get rows) o) place) missing)

  module _ (name : NameId) (place global : ℕ) (found : Some global ≡ kept_place rows name place) where
    only : (q : ℕ) (l : Live) → slice_get live q ≡ Some l → stands_under name place l ≡ true → q ≡ global
    only q l at ok = some_place q global (sym (owned_at name place q l at ok) ∙ sym found)

    pub not_live : slice_get live global ≡ None → None ≡ text_under name live place
    not_live missing = no_text name place live (λ q l at ok. no_live l (sym missing ∙ ap (slice_get live) (sym (only q l at ok)) ∙ at))

    pub another : (v : Live) → Some v ≡ slice_get live global → stands_under name place v ≡ false → None ≡ text_under name live place
    another v at other = no_text name place live
        (λ q l here ok.
        let is : v ≡ l = some_live v l (at ∙ ap (slice_get live) (sym (only q l here ok)) ∙ here) in
        true≢false (sym ok ∙ ap (stands_under name place) (sym is) ∙ other))

    pub owned_text : (v : Live) → Some v ≡ slice_get live global → stands_under name place v ≡ true → Some v.text ≡ text_under name live place
    owned_text v at ok = one_text name place live global v (sym at) ok only
