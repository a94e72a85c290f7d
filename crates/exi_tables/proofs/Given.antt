-- How many places are given under a name, once one more is.
use Rattle.std.proofs.Common.{◌≡◌, ◌≢◌, ℕ, zero, suc, ◌+◌, ◌&&◌, Bool, true, false, cond, List, [], ◌∷◌, ◌++◌, length, get_or, Option, Some, None, refl, ap, sym, ◌∙◌, arith, inl, inr, true≢false}
use Rattle.std.specs.Prelude.{nat_eq, slice_get, unwrap_or, option_map, option_and_then}
use Rattle.std.specs.List.{position_from}
use Rattle.std.proofs.lemmas.Bool.{cases_Bool, eq-eqb, eqb-true}
use Rattle.std.proofs.lemmas.Iterator.Adapters.{position_from-zero}
use Rattle.std.proofs.lemmas.List.Quantifiers.{position-Some}
use Rattle.std.proofs.lemmas.Option.{slice_get-get_or}
use Rattle.exi_names.specs.NameMaps.{same_name}
use Rattle.exi_names.specs.declared.names.NameId.{NameId}
use Rattle.exi_tables.specs.declared.live.Given.{Given}
use Rattle.exi_tables.specs.Values.{changed_at, given_to, name_place, one_more, one_more_at}
use Rattle.exi_tables.proofs.Growing.{get_changed, get_others}
use Rattle.exi_tables.proofs.Least.{get_before, get_last, position_new, position_other}

both : (a b : Bool) → (a && b) ≡ true → (a ≡ true) × (b ≡ true)
both true b h = (refl, h)
both false b h = absurd (cc)

pub same_is : (a b : NameId) → same_name a b ≡ true → a ≡ b
same_is a b h =
    let parts = both (nat_eq a.uri b.uri) (nat_eq a.local b.local) h in
    let uri : a.uri ≡ b.uri = eqb-true a.uri b.uri parts.0 in
    let local : a.local ≡ b.local = eqb-true a.local b.local parts.1 in
    ap (λ u. record { uri = u; local = a.local }) uri ∙ ap (λ l. record { uri = b.uri; local = l }) local

pub same_itself : (a : NameId) → same_name a a ≡ true
same_itself a = rw (eq-eqb a.uri a.uri refl, eq-eqb a.local a.local refl) refl

abbrev more : Given → Given
more g = record { name = g.name; count = g.count + 1 }

from_changed : (name : NameId) (k : ℕ) (gs : List Given) (i : ℕ) → position_from (λ (g : Given). same_name name g.name) k (changed_at gs i more) ≡ position_from (λ (g : Given). same_name name g.name) k gs
from_changed name k [] i = refl
from_changed name k (g ∷ gs) zero = refl
from_changed name k (g ∷ gs) (suc i) = ap (λ found. cond (same_name name g.name) (Some k) found) (from_changed name (k + 1) gs i)

place_changed : (name : NameId) (gs : List Given) (i : ℕ) → name_place name (changed_at gs i more) ≡ name_place name gs
place_changed name gs i =
    let test : Given → Bool = λ g. same_name name g.name in
    position_from-zero test (changed_at gs i more) ∙ from_changed name 0 gs i ∙ sym (position_from-zero test gs)

-- by the place of a name
abbrev count_at : List Given → Option ℕ → ℕ
count_at gs o = unwrap_or (option_map (λ (g : Given). g.count) (option_and_then (slice_get gs) o)) 0

abbrev one_if : Bool → ℕ
one_if b = cond b 1 0

no_given : Given
no_given = record { name = record { uri = 0; local = 0 }; count = 0 }

some_place : (a b : ℕ) → Some a ≡ Some b → a ≡ b
some_place a b e = cc

-- the name has a place
changed_count : (name other : NameId) (gs : List Given) (i : ℕ) → name_place name gs ≡ Some i → given_to other (changed_at gs i more) ≡ given_to other gs + one_if (same_name other name)
changed_count name other gs i found =
    let at = position-Some (λ (g : Given). same_name name g.name) gs i no_given found in
    let here : slice_get gs i ≡ Some (get_or gs i no_given) = slice_get-get_or gs i no_given at.0 in
    let named : name ≡ (get_or gs i no_given).name = same_is name (get_or gs i no_given).name at.1 in
    elim (cases_Bool (same_name other name)) [
      | inl yes_is ↦
          let is : other ≡ name = same_is other name yes_is in
          let place : name_place other gs ≡ Some i = ap (λ n. name_place n gs) is ∙ found in
          let there : slice_get (changed_at gs i more) i ≡ Some (more (get_or gs i no_given)) = get_changed gs i more ∙ ap (option_map more) here in
          let old : given_to other gs ≡ (get_or gs i no_given).count = ap (count_at gs) place ∙ ap (λ o. unwrap_or (option_map (λ (g : Given). g.count) o) 0) here in
          let new : given_to other (changed_at gs i more) ≡ (get_or gs i no_given).count + 1 = ap (count_at (changed_at gs i more)) (place_changed other gs i ∙ place) ∙ ap (λ o. unwrap_or (option_map (λ (g : Given). g.count) o) 0) there in
          rw yes_is (new ∙ ap (λ n. n + 1) (sym old))
      | inr no_is ↦
          let zero_more : given_to other gs ≡ given_to other gs + 0 = omega arith in
          rw no_is (ap (count_at (changed_at gs i more)) (place_changed other gs i) ∙ elsewhere (name_place other gs) refl no_is named ∙ zero_more)
    ]
  where
    elsewhere : (o : Option ℕ) → name_place other gs ≡ o → same_name other name ≡ false → name ≡ (get_or gs i no_given).name → count_at (changed_at gs i more) o ≡ count_at gs o
    elsewhere None e no_is named = refl
    elsewhere (Some j) e no_is named =
        let at = position-Some (λ (g : Given). same_name other g.name) gs j no_given e in
        let apart : j ≢ i = λ same. true≢false (sym (ap (λ (n : NameId). same_name other n) (named ∙ ap (λ k. (get_or gs k no_given).name) (sym same)) ∙ at.1) ∙ no_is) in
        ap (λ o. unwrap_or (option_map (λ (g : Given). g.count) o) 0) (get_others gs i j more apart)

-- the name is new
new_count : (name other : NameId) (gs : List Given) → name_place name gs ≡ None → given_to other (gs ++ record { name = name; count = 1 } ∷ []) ≡ given_to other gs + one_if (same_name other name)
new_count name other gs none =
    let last : Given = record { name = name; count = 1 } in
    let test : Given → Bool = λ g. same_name other g.name in
    elim (cases_Bool (same_name other name)) [
      | inl yes_is ↦
          let is : other ≡ name = same_is other name yes_is in
          let absent : name_place other gs ≡ None = ap (λ n. name_place n gs) is ∙ none in
          let place : name_place other (gs ++ last ∷ []) ≡ Some (length gs) = position_new test gs last absent yes_is in
          let old : given_to other gs ≡ 0 = ap (count_at gs) absent in
          let new : given_to other (gs ++ last ∷ []) ≡ 1 = ap (count_at (gs ++ last ∷ [])) place ∙ ap (λ o. unwrap_or (option_map (λ (g : Given). g.count) o) 0) (get_last gs last) in
          rw (yes_is, old) new
      | inr no_is ↦
          let zero_more : given_to other gs ≡ given_to other gs + 0 = omega arith in
          rw no_is (ap (count_at (gs ++ last ∷ [])) (position_other test gs last no_is) ∙ earlier (name_place other gs) refl ∙ zero_more)
    ]
  where
    earlier : (o : Option ℕ) → name_place other gs ≡ o → count_at (gs ++ record { name = name; count = 1 } ∷ []) o ≡ count_at gs o
    earlier None e = refl
    earlier (Some j) e =
        let at = position-Some (λ (g : Given). same_name other g.name) gs j no_given e in
        ap (λ o. unwrap_or (option_map (λ (g : Given). g.count) o) 0) (get_before gs (record { name = name; count = 1 }) j at.0)

pub given_more : (name other : NameId) (gs : List Given) → given_to other (one_more name gs) ≡ given_to other gs + one_if (same_name other name)
given_more name other gs = by (name_place name gs) refl
  where
    by : (o : Option ℕ) → name_place name gs ≡ o → given_to other (one_more_at name gs o) ≡ given_to other gs + one_if (same_name other name)
    by (Some i) e = changed_count name other gs i e
    by None e = new_count name other gs e
