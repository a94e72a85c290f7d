-- What a value that is added changes, and what it leaves.
use Rattle.std.proofs.Common.{◌≡◌, ◌≢◌, ℕ, ◌<◌, ◌≤◌, ◌+◌, true, false, cond, List, Some, None, refl, sym, ap, ◌∙◌, subst, arith, ◌⊎◌, inl, inr}
use Rattle.std.specs.Prelude.{slice_get, option_map}
use Rattle.std.proofs.lemmas.Bool.{cases_Bool, cases_eq, eq-eqb}
use Rattle.std.proofs.lemmas.Option.{slice_get-map}
use Rattle.exi_names.specs.NameMaps.{same_name}
use Rattle.exi_names.specs.declared.names.NameId.{NameId}
use Rattle.exi_tables.specs.declared.live.Bounds.{Bounds}
use Rattle.exi_tables.specs.declared.live.Live.{Live}
use Rattle.exi_tables.specs.Growth.{IsSound}
use Rattle.exi_tables.specs.Partitions.{live_at}
use Rattle.exi_tables.specs.Values.{ValueTable, given_to, is_added, no_values, one_more, put_at, stands_under, text_under, texts_of, with_added, with_missed}
use Rattle.exi_tables.proofs.Completes.{one_or_none, same_itself}
use Rattle.exi_tables.proofs.Counts.{after_within, length_put}
use Rattle.exi_tables.proofs.Found.{get_put_here, get_put_other, no_text, one_text}
use Rattle.exi_tables.proofs.Given.{given_more}
use Rattle.exi_tables.proofs.Looked.{stood}

some_live : (a b : Live) → Some a ≡ Some b → a ≡ b
some_live a b e = cc

no_item : (l : Live) → None ≡ Some l → ⊥
no_item l e = absurd cc

module _ (t : ValueTable) (name : NameId) (text : List ℕ) where
  abbrev value : Live
  value = record { name = name; local = given_to name t.given; text = text }

  abbrev now : List Live
  now = put_at t.next value t.live

  added_is : is_added t.bounds text ≡ true → with_missed t name text ≡ with_added t name text
  added_is yes_is = rw yes_is refl

  pub not_added : is_added t.bounds text ≡ false → with_missed t name text ≡ t
  not_added no_is = rw no_is refl

  pub counted : (other : NameId) → is_added t.bounds text ≡ true → given_to other (with_missed t name text).given ≡ given_to other t.given + cond (same_name other name) 1 0
  counted other yes_is = rw yes_is (given_more name other t.given)

  module _ (sound : IsSound t) where
    at_place : (q : ℕ) (l : Live) → slice_get now q ≡ Some l → ((q ≡ t.next) × (value ≡ l)) ⊎ ((q ≢ t.next) × (slice_get t.live q ≡ Some l))
    at_place q l at = elim (cases_eq q t.next) [
      | inl same ↦ inl (same, some_live value l (sym (get_put_here t.next value t.live sound.next) ∙ ap (slice_get now) (sym same) ∙ at))
      | inr other ↦ inr (other, sym (get_put_other t.next value t.live q sound.next other) ∙ at)
    ]

    pub global : is_added t.bounds text ≡ true → live_at (texts_of (with_missed t name text)) t.next ≡ Some text
    global yes_is = rw yes_is (slice_get-map (λ (l : Live). l.text) now t.next ∙ ap (option_map (λ (l : Live). l.text)) (get_put_here t.next value t.live sound.next))

    others_added : (place : ℕ) → place ≢ t.next → live_at (texts_of (with_added t name text)) place ≡ live_at (texts_of t) place
    others_added place apart =
        slice_get-map (λ (l : Live). l.text) now place ∙ ap (option_map (λ (l : Live). l.text)) (get_put_other t.next value t.live place sound.next apart)
        ∙ sym (slice_get-map (λ (l : Live). l.text) t.live place)

    pub others : (place : ℕ) → place ≢ t.next → live_at (texts_of (with_missed t name text)) place ≡ live_at (texts_of t) place
    others place apart = elim (cases_Bool (is_added t.bounds text)) [
      | inl yes_is ↦ rw yes_is (others_added place apart)
      | inr no_is ↦ rw no_is refl
    ]

    -- no other value has the new one's place under its name
    fresh : (q : ℕ) (l : Live) → slice_get t.live q ≡ Some l → name ≡ l.name → given_to name t.given ≡ l.local → ⊥
    fresh q l at same local =
        let below : l.local < given_to l.name t.given = sound.given q l at in
        let counts : given_to name t.given ≡ given_to l.name t.given = ap (λ n. given_to n t.given) same in
        absurd (omega (arith, below, counts, local))

    pub own : is_added t.bounds text ≡ true → text_under name (with_missed t name text).live (given_to name t.given) ≡ Some text
    own yes_is = rw yes_is (sym (one_text name (given_to name t.given) now t.next value (get_put_here t.next value t.live sound.next) stands only))
      where
        stands : stands_under name (given_to name t.given) value ≡ true
        stands = rw (same_itself name, eq-eqb (given_to name t.given) (given_to name t.given) refl) refl

        only : (j : ℕ) (m : Live) → slice_get now j ≡ Some m → stands_under name (given_to name t.given) m ≡ true → j ≡ t.next
        only j m there ok = elim (at_place j m there) [
          | inl new ↦ new.0
          | inr old ↦ (let is = stood name (given_to name t.given) m ok in absurd (fresh j m old.1 is.0 is.1))
        ]

    pub pushed_out : (l : Live) → is_added t.bounds text ≡ true → slice_get t.live t.next ≡ Some l → text_under l.name (with_missed t name text).live l.local ≡ None
    pushed_out l yes_is here = rw yes_is (sym (no_text l.name l.local now never))
      where
        never : (j : ℕ) (m : Live) → slice_get now j ≡ Some m → stands_under l.name l.local m ≡ true → ⊥
        never j m there ok =
            let is = stood l.name l.local m ok in
            elim (at_place j m there) [
              | inl new ↦ fresh t.next l here (ap (λ (x : Live). x.name) new.1 ∙ sym is.0) (ap (λ (x : Live). x.local) new.1 ∙ sym is.1)
              | inr old ↦ old.0 (sound.once j t.next m l old.1 here (sym is.0) (sym is.1))
            ]

    given_now : (n : NameId) → given_to n t.given ≤ given_to n (one_more name t.given)
    given_now n = rw (given_more name n t.given) (one_or_none (same_name n name) (given_to n t.given))

    more_given : given_to name t.given < given_to name (one_more name t.given)
    more_given =
        let more : given_to name (one_more name t.given) ≡ given_to name t.given + 1 = rw (same_itself name) at (given_more name name t.given) in
        omega (arith, more)

    added_sound : IsSound (with_added t name text)
    added_sound = record {
      given = λ q l at. elim (at_place q l at) [
        | inl new ↦ subst (λ (x : Live). x.local < given_to x.name (one_more name t.given)) new.1 more_given
        | inr old ↦ omega (arith, sound.given q l old.1, given_now l.name)
      ];
      once = λ q r l m at there names locals. elim (at_place q l at) [
        | inl new ↦ elim (at_place r m there) [
          | inl newer ↦ new.0 ∙ sym newer.0
          | inr old ↦ absurd (fresh r m old.1 (ap (λ (x : Live). x.name) new.1 ∙ names) (ap (λ (x : Live). x.local) new.1 ∙ locals))
        ]
        | inr old ↦ elim (at_place r m there) [
          | inl new ↦ absurd (fresh q l old.1 (ap (λ (x : Live). x.name) new.1 ∙ sym names) (ap (λ (x : Live). x.local) new.1 ∙ sym locals))
          | inr older ↦ sound.once q r l m old.1 older.1 names locals
        ]
      ];
      next = (let l = length_put t.next value t.live sound.next in omega (arith, l.0, after_within t.bounds.capacity t.next));
    }

    pub sound_then : IsSound (with_missed t name text)
    sound_then = elim (cases_Bool (is_added t.bounds text)) [
      | inl yes_is ↦ rw yes_is added_sound
      | inr no_is ↦ rw no_is sound
    ]

pub first_sound : (b : Bounds) → IsSound (no_values b)
first_sound b = record {
  given = λ q l at. absurd (no_item l at);
  once = λ q r l m at there names locals. absurd (no_item l at);
  next = omega arith;
}
