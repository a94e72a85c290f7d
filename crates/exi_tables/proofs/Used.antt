-- Lists of URIs, of which those are known that were used.
use Rattle.std.proofs.Common.{◌≡◌, ◌≢◌, ℕ, zero, suc, ◌<◌, ◌≤◌, ◌+◌, ◌||◌, Bool, true, false, List, [], ◌∷◌, ◌++◌, length, set, get_or, refl, sym, ap, ◌∙◌, arith, ◌⊎◌, inl, inr, true≢false}
use Rattle.std.specs.Prelude.{nat_eq}
use Rattle.std.proofs.lemmas.Bool.{cases_Bool, cases_eq, eqb-true, eqb-false, eq-eqb, ne_eqb}
use Rattle.exi_tables.specs.Added.{Added, IsPushed, IsPushedAt, idle, list_at, no_start}
use Rattle.exi_tables.specs.Kept.{IsUsed, holds_place}

-- ---- places
holds_last : (used : List ℕ) (uri : ℕ) → holds_place (used ++ uri ∷ []) uri ≡ true
holds_last [] uri = rw (eq-eqb uri uri refl) refl
holds_last (u ∷ us) uri = elim (cases_Bool (nat_eq uri u)) [
  | inl yes_is ↦ rw yes_is refl
  | inr no_is ↦ rw no_is (holds_last us uri)
]

holds_more : (used : List ℕ) (uri k : ℕ) → holds_place used k ≡ true → holds_place (used ++ uri ∷ []) k ≡ true
holds_more [] uri k h = absurd (true≢false (sym h))
holds_more (u ∷ us) uri k h = elim (cases_Bool (nat_eq k u)) [
  | inl yes_is ↦ rw yes_is refl
  | inr no_is ↦ rw no_is (holds_more us uri k (rw no_is at h))
]

holds_other : (used : List ℕ) (uri k : ℕ) → k ≢ uri → holds_place (used ++ uri ∷ []) k ≡ true → holds_place used k ≡ true
holds_other [] uri k apart h = absurd (true≢false (sym (rw (ne_eqb k uri apart) at h)))
holds_other (u ∷ us) uri k apart h = elim (cases_Bool (nat_eq k u)) [
  | inl yes_is ↦ rw yes_is refl
  | inr no_is ↦ rw no_is (holds_other us uri k apart (rw no_is at h))
]

-- ---- a list set
pub at_set_here : (lists : List Added) (uri : ℕ) (b : Added) → uri < length lists → list_at (set lists uri b) uri ≡ b
at_set_here [] uri b within = absurd (omega (arith, within))
at_set_here (a ∷ more) zero b within = refl
at_set_here (a ∷ more) (suc uri) b within = at_set_here more uri b (omega (arith, within))

pub at_set_other : (lists : List Added) (uri k : ℕ) (b : Added) → k ≢ uri → list_at (set lists uri b) k ≡ list_at lists k
at_set_other [] uri k b apart = refl
at_set_other (a ∷ more) zero zero b apart = absurd (apart refl)
at_set_other (a ∷ more) zero (suc k) b apart = refl
at_set_other (a ∷ more) (suc uri) zero b apart = refl
at_set_other (a ∷ more) (suc uri) (suc k) b apart = at_set_other more uri k b (λ e. apart (ap suc e))

past_idle : (lists : List Added) (uri : ℕ) → length lists ≤ uri → list_at lists uri ≡ idle
past_idle [] uri past = refl
past_idle (a ∷ more) zero past = absurd (omega (arith, past))
past_idle (a ∷ more) (suc uri) past = past_idle more uri (omega (arith, past))

-- another default makes no difference within the lists
pub at_within : (lists : List Added) (uri : ℕ) (a : Added) → uri < length lists → a ≡ get_or lists uri a → list_at lists uri ≡ a
at_within [] uri a within e = absurd (omega (arith, within))
at_within (b ∷ bs) zero a within e = sym e
at_within (b ∷ bs) (suc uri) a within e = at_within bs uri a (omega (arith, within)) e

pub pushed_at : (lists : List Added) (uri start n : ℕ) (text : List ℕ) (a b : Added) → uri < length lists → a ≡ get_or lists uri a → IsPushed start text n a b →
    IsPushedAt uri start text n lists (set lists uri b)
pushed_at lists uri start n text a b within is pushed = record {
  here = rw (at_set_here lists uri b within, at_within lists uri a within is) pushed;
  others = λ other apart. at_set_other lists uri other b apart;
}

-- ---- what is used
pub used_same : (used : List ℕ) (lists more : List Added) → IsUsed used lists → ((k : ℕ) → list_at more k ≡ list_at lists k) → IsUsed used more
used_same used lists more kept same = record { others = λ k. rw (same k) (kept.others k) }

pub used_push : (used : List ℕ) (lists : List Added) (uri : ℕ) (b : Added) → IsUsed used lists → IsUsed (used ++ uri ∷ []) (set lists uri b)
used_push used lists uri b kept = record {
  others = λ k. elim (cases_eq k uri) [
    | inl same ↦ inl (rw same (holds_last used uri))
    | inr apart ↦ elim (kept.others k) [
      | inl held ↦ inl (holds_more used uri k held)
      | inr none ↦ inr (at_set_other lists uri k b apart ∙ none)
    ]
  ];
}

-- what was used before stays so
pub used_again : (used : List ℕ) (lists : List Added) (uri : ℕ) (a b : Added) → uri < length lists → a ≡ get_or lists uri a → nat_eq a.start no_start ≡ false → IsUsed used lists → IsUsed used (set lists uri b)
used_again used lists uri a b within is started kept = record {
  others = λ k. elim (cases_eq k uri) [
    | inl same ↦ elim (kept.others k) [
      | inl held ↦ inl held
      | inr none ↦
          let start_is : a.start ≡ no_start = ap (λ (x : Added). x.start) (sym (at_within lists uri a within is) ∙ ap (list_at lists) (sym same) ∙ none) in
          absurd (eqb-false a.start no_start started start_is)
    ]
    | inr apart ↦ elim (kept.others k) [
      | inl held ↦ inl held
      | inr none ↦ inr (at_set_other lists uri k b apart ∙ none)
    ]
  ];
}

pub used_clear : (used : List ℕ) (uri : ℕ) (lists : List Added) → uri < length lists → IsUsed (used ++ uri ∷ []) lists → IsUsed used (set lists uri idle)
used_clear used uri lists within kept = record {
  others = λ k. elim (cases_eq k uri) [
    | inl same ↦ inr (rw same (at_set_here lists uri idle within))
    | inr apart ↦ elim (kept.others k) [
      | inl held ↦ inl (holds_other used uri k apart held)
      | inr none ↦ inr (at_set_other lists uri k idle apart ∙ none)
    ]
  ];
}

pub used_past : (used : List ℕ) (uri : ℕ) (lists : List Added) → length lists ≤ uri → IsUsed (used ++ uri ∷ []) lists → IsUsed used lists
used_past used uri lists past kept = record {
  others = λ k. elim (cases_eq k uri) [
    | inl same ↦ inr (rw same (past_idle lists uri past))
    | inr apart ↦ elim (kept.others k) [
      | inl held ↦ inl (holds_other used uri k apart held)
      | inr none ↦ inr none
    ]
  ];
}

pub none_used : (lists : List Added) → IsUsed [] lists → (uri : ℕ) → list_at lists uri ≡ idle
none_used lists kept uri = elim (kept.others uri) [
  | inl held ↦ absurd (true≢false (sym held))
  | inr none ↦ none
]

-- ---- room for one list more
pub same_widened : (lists : List Added) (k : ℕ) → list_at (lists ++ idle ∷ []) k ≡ list_at lists k
same_widened [] zero = refl
same_widened [] (suc k) = refl
same_widened (a ∷ more) zero = refl
same_widened (a ∷ more) (suc k) = same_widened more k

pub used_widened : (used : List ℕ) (lists : List Added) → IsUsed used lists → IsUsed used (lists ++ idle ∷ [])
used_widened used lists kept = used_same used lists (lists ++ idle ∷ []) kept (same_widened lists)
