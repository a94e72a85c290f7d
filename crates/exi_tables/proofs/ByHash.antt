-- Texts that are told by the indices of their keys.
use Rattle.std.proofs.Common.{◌≡◌, ℕ, zero, suc, ◌<◌, ◌+◌, ◌-◌, ◌^◌, cond, true, false, List, [], ◌∷◌, ◌++◌, length, get_or, Option, Some, None, is_some, refl, sym, ap, ◌∙◌, arith, inl, inr, true≢false, length-append}
use Rattle.std.specs.Prelude.{position, slice_get, unwrap_or}
use Rattle.std.specs.List.{position_or_len}
use Rattle.std.specs.Map.{keys_of, lookup}
use Rattle.std.specs.Str.{bytes_eq}
use Rattle.std.proofs.lemmas.Bool.{cases_Bool, cases_lt}
use Rattle.std.proofs.lemmas.List.{length-map, map-append}
use Rattle.std.proofs.lemmas.List.Quantifiers.{position-Some}
use Rattle.std.proofs.lemmas.Option.{slice_get_within}
use Rattle.std.proofs.lemmas.Slice.Eq.{bytes_eq-Decides}
use Rattle.indexmap.specs.IndexMap.{insert_entry}
use Rattle.exi_tables.specs.Added.{Puts, number_of}
use Rattle.exi_tables.specs.Kept.{IsHashed, texts_at}
use Rattle.exi_tables.proofs.Least.{get_before, get_last}

some_of : (o : Option ℕ) → true ≡ is_some o → o ≡ None → ⊥
some_of o some none = true≢false (some ∙ ap is_some none)

pub none_of : (o : Option ℕ) → false ≡ is_some o → o ≡ None
none_of None e = refl
none_of (Some x) e = absurd (true≢false (sym e))

some_index : (a b : ℕ) → Some a ≡ Some b → a ≡ b
some_index a b e = cc

-- an index more, below the keys
within_push : (places : List ℕ) (last keys : ℕ) → ((place index : ℕ) → slice_get places place ≡ Some index → index < keys) → last < keys →
    (place index : ℕ) → slice_get (places ++ last ∷ []) place ≡ Some index → index < keys
within_push places last keys within below place index at = elim (cases_lt place (length places)) [
  | inl before ↦ within place index (sym (get_before places last place before) ∙ at)
  | inr past ↦
      let in_all : place < length (places ++ last ∷ []) = slice_get_within (places ++ last ∷ []) place index at in
      let place_is : place ≡ length places = omega (arith, in_all, past, length-append places (last ∷ [])) in
      let is : last ≡ index = some_index last index (sym (get_last places last) ∙ ap (slice_get (places ++ last ∷ [])) (sym place_is) ∙ at) in
      rw is at below
]

-- ---- the text is a key
pub known_text : (entries : List (List ℕ × ℕ)) (places : List ℕ) (text : List ℕ) (index : ℕ) → position (bytes_eq text) (keys_of entries) ≡ Some index →
    texts_at (keys_of entries) (places ++ index ∷ []) ≡ texts_at (keys_of entries) places ++ text ∷ []
known_text entries places text index found =
    let at = position-Some (bytes_eq text) (keys_of entries) index [] found in
    let is : get_or (keys_of entries) index [] ≡ text = sym ((bytes_eq-Decides text (get_or (keys_of entries) index [])).0 at.1) in
    map-append (λ i. get_or (keys_of entries) i []) places (index ∷ []) ∙ ap (λ t. texts_at (keys_of entries) places ++ t ∷ []) is

pub known_kept : (entries : List (List ℕ × ℕ)) (places : List ℕ) (text : List ℕ) (index : ℕ) → IsHashed entries places → length places < 2 ^ 32 - 1 →
    position (bytes_eq text) (keys_of entries) ≡ Some index → IsHashed entries (places ++ index ∷ [])
known_kept entries places text index kept room found =
    let at = position-Some (bytes_eq text) (keys_of entries) index [] found in
    let below : index < length entries = rw length-map at at.0 in
    record {
      within = within_push places index (length entries) kept.within below;
      few_keys = omega (arith, kept.few_keys, length-append places (index ∷ []));
      few = omega (arith, room, length-append places (index ∷ []));
    }

pub known_puts : (entries : List (List ℕ × ℕ)) (text : List ℕ) (number : ℕ) → true ≡ is_some (lookup (bytes_eq text) entries) → Puts entries text number entries
known_puts entries text number some t = elim (cases_Bool (bytes_eq text t)) [
  | inr no_is ↦ rw no_is refl
  | inl yes_is ↦ rw yes_is (by (number_of entries t) (some ∙ ap (λ u. is_some (number_of entries u)) ((bytes_eq-Decides text t).0 yes_is)))
]
  where
    by : (o : Option ℕ) → true ≡ is_some o → o ≡ Some (unwrap_or o number)
    by None e = absurd (true≢false e)
    by (Some m) e = refl

-- ---- the text is new
pub new_entry : (entries : List (List ℕ × ℕ)) (text : List ℕ) (place : ℕ) → lookup (bytes_eq text) entries ≡ None → insert_entry bytes_eq entries text place ≡ entries ++ (text, place) ∷ []
new_entry [] text place none = refl
new_entry (e ∷ es) text place none = elim (cases_Bool (bytes_eq text e.0)) [
  | inl yes_is ↦ absurd (some_of (Some e.1) refl (rw yes_is at none))
  | inr no_is ↦ rw no_is (ap (λ xs. e ∷ xs) (new_entry es text place (rw no_is at none)))
]

new_index : (entries : List (List ℕ × ℕ)) (text : List ℕ) → lookup (bytes_eq text) entries ≡ None → position_or_len (bytes_eq text) (keys_of entries) ≡ length entries
new_index [] text none = refl
new_index (e ∷ es) text none = elim (cases_Bool (bytes_eq text e.0)) [
  | inl yes_is ↦ absurd (some_of (Some e.1) refl (rw yes_is at none))
  | inr no_is ↦ rw no_is (let ih : position_or_len (bytes_eq text) (keys_of es) ≡ length es = new_index es text (rw no_is at none) in omega (arith, ih))
]

get_or_before : (xs : List (List ℕ)) (x : List ℕ) (i : ℕ) → i < length xs → get_or (xs ++ x ∷ []) i [] ≡ get_or xs i []
get_or_before [] x i within = absurd (omega (arith, within))
get_or_before (y ∷ ys) x zero within = refl
get_or_before (y ∷ ys) x (suc i) within = get_or_before ys x i (omega (arith, within))

get_or_last : (xs : List (List ℕ)) (x : List ℕ) → get_or (xs ++ x ∷ []) (length xs) [] ≡ x
get_or_last [] x = refl
get_or_last (y ∷ ys) x = get_or_last ys x

old_texts : (keys : List (List ℕ)) (text : List ℕ) (places : List ℕ) → ((place index : ℕ) → slice_get places place ≡ Some index → index < length keys) → texts_at (keys ++ text ∷ []) places ≡ texts_at keys places
old_texts keys text [] within = refl
old_texts keys text (p ∷ ps) within =
    let here : get_or (keys ++ text ∷ []) p [] ≡ get_or keys p [] = get_or_before keys text p (within 0 p refl) in
    let rest : texts_at (keys ++ text ∷ []) ps ≡ texts_at keys ps = old_texts keys text ps (λ place index at. within (suc place) index at) in
    ap (λ t. t ∷ texts_at (keys ++ text ∷ []) ps) here ∙ ap (λ ts. get_or keys p [] ∷ ts) rest

module _ (entries more : List (List ℕ × ℕ)) (places : List ℕ) (text : List ℕ) (place index : ℕ) (kept : IsHashed entries places) (none : lookup (bytes_eq text) entries ≡ None)
    (inserted : more ≡ insert_entry bytes_eq entries text place) (index_is : index ≡ position_or_len (bytes_eq text) (keys_of entries)) where
  all_entries : more ≡ entries ++ (text, place) ∷ []
  all_entries = inserted ∙ new_entry entries text place none

  all_keys : keys_of more ≡ keys_of entries ++ text ∷ []
  all_keys = ap keys_of all_entries ∙ map-append (λ (e : List ℕ × ℕ). e.0) entries ((text, place) ∷ [])

  at_end : index ≡ length (keys_of entries)
  at_end = let long : length (keys_of entries) ≡ length entries = rw length-map refl in index_is ∙ new_index entries text none ∙ sym long

  pub new_text : texts_at (keys_of more) (places ++ index ∷ []) ≡ texts_at (keys_of entries) places ++ text ∷ []
  new_text =
      let within : (k i : ℕ) → slice_get places k ≡ Some i → i < length (keys_of entries) = λ k i at. rw length-map (kept.within k i at) in
      let last : get_or (keys_of entries ++ text ∷ []) index [] ≡ text = ap (λ i. get_or (keys_of entries ++ text ∷ []) i []) at_end ∙ get_or_last (keys_of entries) text in
      ap (λ ks. texts_at ks (places ++ index ∷ [])) all_keys ∙ map-append (λ i. get_or (keys_of entries ++ text ∷ []) i []) places (index ∷ [])
      ∙ ap (λ t. texts_at (keys_of entries ++ text ∷ []) places ++ t ∷ []) last ∙ ap (λ ts. ts ++ text ∷ []) (old_texts (keys_of entries) text places within)

  pub new_kept : length places < 2 ^ 32 - 1 → IsHashed more (places ++ index ∷ [])
  new_kept room =
      let longer : length more ≡ length entries + 1 = ap length all_entries ∙ length-append entries ((text, place) ∷ []) in
      let long : length (keys_of entries) ≡ length entries = rw length-map refl in
      let below : index < length more = omega (arith, at_end, longer, long) in
      record {
        within = within_push places index (length more) (λ k i at. omega (arith, kept.within k i at, longer)) below;
        few_keys = omega (arith, kept.few_keys, longer, length-append places (index ∷ []));
        few = omega (arith, room, length-append places (index ∷ []));
      }

  pub new_puts : ((q : List ℕ) → lookup (bytes_eq q) more ≡ cond (bytes_eq text q) (Some place) (lookup (bytes_eq q) entries)) → Puts entries text place more
  new_puts updates t = updates t ∙ elim (cases_Bool (bytes_eq text t)) [
    | inr no_is ↦ rw no_is refl
    | inl yes_is ↦ rw yes_is (ap (λ (o : Option ℕ). Some (unwrap_or o place)) (sym none ∙ ap (number_of entries) ((bytes_eq-Decides text t).0 yes_is)))
  ]
