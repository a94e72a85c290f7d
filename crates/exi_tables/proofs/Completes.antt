-- Each live value stays found, also when one is added.
use Rattle.std.proofs.Common.{◌≡◌, ◌≢◌, ℕ, ◌<◌, ◌≤◌, ◌+◌, Bool, true, false, cond, List, length, Some, refl, sym, ap, ◌∙◌, subst, arith, ◌⊎◌, inl, inr}
use Rattle.std.specs.Prelude.{slice_get}
use Rattle.std.proofs.lemmas.Bool.{cases_eq, eq-eqb}
use Rattle.exi_names.specs.NameMaps.{same_name}
use Rattle.exi_names.specs.declared.names.NameId.{NameId}
use Rattle.exi_tables.specs.declared.live.Live.{Live}
use Rattle.exi_tables.specs.Kept.{IsListed, IsOwned, Row, givens, kept_place, text_hash}
use Rattle.exi_tables.specs.Spots.{SpotSet, is_listed}
use Rattle.exi_tables.specs.Values.{given_to, one_more, put_at}
use Rattle.exi_tables.proofs.Found.{get_put_here, get_put_other}
use Rattle.exi_tables.proofs.Given.{given_more}

some_live : (a b : Live) → Some a ≡ Some b → a ≡ b
some_live a b e = cc

some_place : (a b : ℕ) → Some a ≡ Some b → a ≡ b
some_place a b e = cc

-- more places are listed
pub more_listed : (live : List Live) (index more : List (ℕ × SpotSet)) → IsListed live index →
    ((other p : ℕ) → is_listed index other p ≡ true → is_listed more other p ≡ true) → IsListed live more
more_listed live index more c keeps place l at = keeps (text_hash l.text) place (c place l at)

pub one_or_none : (b : Bool) (n : ℕ) → n ≤ n + cond b 1 0
one_or_none true n = omega arith
one_or_none false n = omega arith

pub same_itself : (a : NameId) → same_name a a ≡ true
same_itself a = rw (eq-eqb a.uri a.uri refl, eq-eqb a.local a.local refl) refl

-- whatever stands at a place now is the value or stood there before
abbrev pub StoodOrNew : List Live → ℕ → Live → ℕ → Live → Type 0
StoodOrNew live place value q l = ((q ≡ place) × (value ≡ l)) ⊎ ((q ≢ place) × (slice_get live q ≡ Some l))

pub at_place : (live : List Live) (place : ℕ) (value : Live) → place ≤ length live → (q : ℕ) (l : Live) → slice_get (put_at place value live) q ≡ Some l → StoodOrNew live place value q l
at_place live place value within q l at = elim (cases_eq q place) [
  | inl same ↦ inl (same, some_live value l (sym (get_put_here place value live within) ∙ ap (slice_get (put_at place value live)) (sym same) ∙ at))
  | inr other ↦ inr (other, sym (get_put_other place value live q within other) ∙ at)
]

-- a value more, in place of the one that stood there
module _ (live : List Live) (rows before after : List Row) (name : NameId) (local place : ℕ) (text : List ℕ)
    (c : IsOwned live rows) (local_is : local ≡ given_to name (givens rows)) (within : place ≤ length live)
    (more_givens : givens before ≡ one_more name (givens rows)) (key_there : kept_place before name (given_to name (givens rows)) ≡ Some place)
    (stay : (n : NameId) (k : ℕ) → k < given_to n (givens rows) → kept_place before n k ≡ kept_place rows n k) (same_givens : givens after ≡ givens before)
    (pushed : (n : NameId) (k : ℕ) → ((l : Live) → slice_get live place ≡ Some l → n ≡ l.name → k ≢ l.local) → kept_place after n k ≡ kept_place before n k) where
  abbrev value : Live
  value = record { name = name; local = local; text = text }

  given_then : (n : NameId) → given_to n (givens after) ≡ given_to n (givens rows) + cond (same_name n name) 1 0
  given_then n = ap (given_to n) (same_givens ∙ more_givens) ∙ given_more name n (givens rows)

  given_now : (n : NameId) → given_to n (givens rows) ≤ given_to n (givens after)
  given_now n = rw (given_then n) (one_or_none (same_name n name) (given_to n (givens rows)))

  more_given : local < given_to name (givens after)
  more_given =
      let more : given_to name (givens after) ≡ given_to name (givens rows) + 1 = rw (same_itself name) at (given_then name) in
      omega (arith, more, local_is)

  -- the value that stood there has not the new one's place, nor that of another
  apart_new : (l : Live) → slice_get live place ≡ Some l → name ≡ l.name → local ≢ l.local
  apart_new l at same e =
      let counts : given_to l.name (givens rows) ≡ local = ap (λ n. given_to n (givens rows)) (sym same) ∙ sym local_is in
      absurd (omega (arith, c.below place l at, counts, e))

  apart_old : (q : ℕ) (m : Live) → slice_get live q ≡ Some m → q ≢ place → (l : Live) → slice_get live place ≡ Some l → m.name ≡ l.name → m.local ≢ l.local
  apart_old q m at other l stood names locals =
      other (some_place q place (sym (c.owned q m at) ∙ ap (λ n. kept_place rows n m.local) names ∙ ap (kept_place rows l.name) locals ∙ c.owned place l stood))

  pub owned_then : IsOwned (put_at place value live) after
  owned_then = record {
    below = λ q l at. elim (at_place live place value within q l at) [
      | inl new ↦ subst (λ (x : Live). x.local < given_to x.name (givens after)) new.1 more_given
      | inr old ↦ omega (arith, c.below q l old.1, given_now l.name)
    ];
    owned = λ q l at. elim (at_place live place value within q l at) [
      | inl new ↦ subst (λ (x : Live). kept_place after x.name x.local ≡ Some q) new.1
          (pushed name local apart_new ∙ ap (kept_place before name) local_is ∙ key_there ∙ ap (λ (n : ℕ). Some n) (sym new.0))
      | inr old ↦ pushed l.name l.local (apart_old q l old.1 old.0) ∙ stay l.name l.local (c.below q l old.1) ∙ c.owned q l old.1
    ];
  }

-- the same by hash
pub listed_then : (live : List Live) (index last : List (ℕ × SpotSet)) (value : Live) (place hash : ℕ) → IsListed live index → place ≤ length live → hash ≡ text_hash value.text →
    is_listed last hash place ≡ true → ((other p : ℕ) → is_listed index other p ≡ true → p ≢ place → is_listed last other p ≡ true) → IsListed (put_at place value live) last
listed_then live index last value place hash c within hash_is there keeps q l at = elim (at_place live place value within q l at) [
  | inl new ↦ subst (λ (x : Live). is_listed last (text_hash x.text) q ≡ true) new.1 (rw (new.0, ← hash_is) there)
  | inr old ↦ keeps (text_hash l.text) q (c q l old.1) old.0
]
