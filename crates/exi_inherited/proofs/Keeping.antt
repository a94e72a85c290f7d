-- What was told, as a map keeps it.
use Rattle.std.proofs.Common.{◌≡◌, ℕ, zero, suc, ◌≤◌, Bool, true, false, cond, ◌||◌, Option, Some, None, List, [], ◌∷◌, ◌++◌, drop, is_some, length, map, option_to_list, reverse, slice_get, refl, sym, ap, ◌∙◌}
use Rattle.std.specs.List.{flat_map}
use Rattle.std.specs.Map.{lookup}
use Rattle.std.proofs.lemmas.Bool.{cond-false, cond-true, or_parts}
use Rattle.std.proofs.lemmas.Grind.{flat_map-append}
use Rattle.std.proofs.lemmas.List.{append-nil, drop_all, reverse-append}
use Rattle.indexmap.specs.IndexMap.{insert_entry}
use Rattle.exi_inherited.specs.Told.{key_pair, left_of, said_entry, told_with, use_in, use_said}
use Rattle.exi_inherited.specs.Uses.{Said, same_pair, says}
use Rattle.exi_inherited.specs.declared.told.NameKey.{NameKey}
use Rattle.exi_inherited.specs.declared.uses.Use.{Use}

-- ---- by their names
abbrev pub same_key : NameKey → NameKey → Bool
same_key k q = same_pair (key_pair k) (key_pair q)

abbrev pub saids : List (NameKey × Option Use) → List Said
saids es = map said_entry es

pub found_says : (k : NameKey) (es : List (NameKey × Option Use)) → is_some (lookup (same_key k) es) ≡ says (key_pair k) (saids es)
found_says k [] = refl
found_says k (e ∷ es) = go (same_key k e.0) (found_says k es)
  where
    go : (b : Bool) → is_some (lookup (same_key k) es) ≡ says (key_pair k) (saids es) → is_some (cond b (Some e.1) (lookup (same_key k) es)) ≡ (b || says (key_pair k) (saids es))
    go true h = refl
    go false h = h

inserted_if : (b : Bool) (k : NameKey) (used : Option Use) (e : NameKey × Option Use) (es : List (NameKey × Option Use)) → b ≡ false → saids (insert_entry same_key es k used) ≡ saids es ++ said_entry (k, used) ∷ [] → saids (cond b ((e.0, used) ∷ es) (e ∷ insert_entry same_key es k used)) ≡ said_entry e ∷ (saids es ++ said_entry (k, used) ∷ [])
inserted_if b k used e es f h = ap saids (cond-false b ((e.0, used) ∷ es) (e ∷ insert_entry same_key es k used) f) ∙ ap (λ ss. said_entry e ∷ ss) h

inserted : (k : NameKey) (used : Option Use) (es : List (NameKey × Option Use)) → says (key_pair k) (saids es) ≡ false → saids (insert_entry same_key es k used) ≡ saids es ++ said_entry (k, used) ∷ []
inserted k used [] f = refl
inserted k used (e ∷ es) f =
    let parts = or_parts (same_key k e.0) (says (key_pair k) (saids es)) f in inserted_if (same_key k e.0) k used e es parts.0 (inserted k used es parts.1)

pub told_before : (k : NameKey) (used : Option Use) (es : List (NameKey × Option Use)) (b : Bool) → b ≡ is_some (lookup (same_key k) es) → b ≡ true → saids es ≡ told_with (said_entry (k, used)) (saids es)
told_before k used es b e f = sym (cond-true (says (key_pair k) (saids es)) (saids es) (saids es ++ said_entry (k, used) ∷ []) (sym (found_says k es) ∙ sym e ∙ f))

pub told_now : (k : NameKey) (used : Option Use) (es : List (NameKey × Option Use)) (b : Bool) → b ≡ is_some (lookup (same_key k) es) → b ≡ false → saids (insert_entry same_key es k used) ≡ told_with (said_entry (k, used)) (saids es)
told_now k used es b e f =
    let unsaid : says (key_pair k) (saids es) ≡ false = sym (found_says k es) ∙ sym e ∙ f in inserted k used es unsaid ∙ sym (cond-false (says (key_pair k) (saids es)) (saids es) (saids es ++ said_entry (k, used) ∷ []) unsaid)

-- ---- at their places
abbrev pub use_kept : Option (NameKey × Option Use) → Option Use
use_kept None = None
use_kept (Some e) = e.1

pub use_at : (es : List (NameKey × Option Use)) (place : ℕ) → use_in (slice_get (saids es) place) ≡ use_kept (slice_get es place)
use_at [] place = refl
use_at (e ∷ es) zero = refl
use_at (e ∷ es) (suc place) = use_at es place

-- ---- from the last on
left_front : (s : Said) (told : List Said) → left_of (s ∷ told) ≡ left_of told ++ use_said s
left_front s told = ap (flat_map use_said) (reverse-append (s ∷ []) told) ∙ flat_map-append use_said (reverse told) (s ∷ []) ∙ ap (λ us. left_of told ++ us) (append-nil (use_said s))

pub left_next : (told : List Said) (k : ℕ) → left_of (drop k told) ≡ left_of (drop (suc k) told) ++ option_to_list (use_in (slice_get told k))
left_next [] k = go k
  where
    go : (n : ℕ) → left_of (drop n []) ≡ left_of (drop (suc n) []) ++ option_to_list (use_in (slice_get [] n))
    go zero = refl
    go (suc n) = refl
left_next (s ∷ told) zero = left_front s told
left_next (s ∷ told) (suc k) = left_next told k

pub uses_start : (told : List Said) (us : List Use) (n : ℕ) → us ≡ [] → length told ≤ n → us ≡ left_of (drop n told)
uses_start told us n e le = e ∙ sym (ap left_of (drop_all n told le))

pub uses_step : (told : List Said) (old new : List Use) (n k : ℕ) (used : Option Use) → n ≡ suc k → old ≡ left_of (drop n told) → used ≡ use_in (slice_get told k) → new ≡ old ++ option_to_list used → new ≡ left_of (drop k told)
uses_step told old new n k used e f g h =
    h
    ∙ ap (λ us. us ++ option_to_list used) (f ∙ ap (λ (m : ℕ). left_of (drop m told)) e)
    ∙ ap (λ o. left_of (drop (suc k) told) ++ option_to_list o) g
    ∙ sym (left_next told k)
