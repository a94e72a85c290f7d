-- The names that a schema has stand in the first string tables at their least places, and go on standing there; so do
-- xsi:type and xsi:nil.
use Rattle.std.proofs.Common.{◌≡◌, ℕ, zero, suc, ◌+◌, ◌≤◌, List, [], ◌∷◌, ◌++◌, length, map, take, drop, get_or, Option, Some, refl, sym, ap, ◌∙◌, subst, arith}
use Rattle.std.specs.Prelude.{IfSome, position, slice_get}
use Rattle.std.specs.Str.{bytes_eq}
use Rattle.std.proofs.lemmas.Bool.{both_ways}
use Rattle.std.proofs.lemmas.List.{length-take, take-append-drop}
use Rattle.std.proofs.lemmas.List.Quantifiers.{position-Some}
use Rattle.std.proofs.lemmas.Option.{get_or_from_slice_get, slice_get-get_or}
use Rattle.std.proofs.lemmas.Slice.Eq.{bytes_eq-Decides}
use Rattle.exi_gram.specs.Naming.{local_place, uri_place}
use Rattle.exi_names.specs.StartTables.{IsStart, Names, first_uris, xsi_names}
use Rattle.exi_names.specs.declared.names.NameId.{NameId}
use Rattle.exi_names.specs.declared.names.QName.{QName}
use Rattle.exi_tables.specs.Growth.{IsLeast}
use Rattle.exi_tables.specs.Partitions.{Partitions, first_partitions, least_place, locals, locals_in, namespaces_from, uris}
use Rattle.exi_tables.proofs.Least.{least_found, position_append}
use Rattle.exi_ways.specs.Ways.{IsPlaced}
use Rattle.exi_processing.specs.Rules.{nil_name, type_name}
use Rattle.exi_processing.specs.Sound.{IsLeastName}

-- ---- a place among texts
placed_least : (texts : List (List ℕ)) (text : List ℕ) (place : ℕ) → position (bytes_eq text) texts ≡ Some place → IsLeast texts text place
placed_least texts text place e =
    let at = position-Some (bytes_eq text) texts place [] e in
    record {
      found = slice_get-get_or texts place [] at.0 ∙ ap Some (sym ((bytes_eq-Decides text (get_or texts place [])).0 at.1));
      least = λ k below is. both_ways (bytes_eq text (get_or texts k [])) (at.2 k below) ((bytes_eq-Decides text (get_or texts k [])).1 (sym (get_or_from_slice_get texts k text [] is)));
    }

-- ---- the first tables have the lists of the names
uris_from : (k : ℕ) (us : List (List ℕ)) (ls : List (List (List ℕ))) → length ls ≡ length us → map (λ n. n.uri) (namespaces_from k us ls) ≡ us
uris_from k [] ls e = refl
uris_from k (u ∷ us) [] e = absurd (omega (arith, e))
uris_from k (u ∷ us) (l ∷ ls) e = ap (λ (z : List (List ℕ)). u ∷ z) (uris_from (k + 1) us ls (omega (arith, e)))

locals_from : (k : ℕ) (us : List (List ℕ)) (ls : List (List (List ℕ))) → length ls ≡ length us → (uri : ℕ) → locals_in (slice_get (namespaces_from k us ls) uri) ≡ get_or ls uri []
locals_from k [] [] e uri = refl
locals_from k [] (l ∷ ls) e uri = absurd (omega (arith, e))
locals_from k (u ∷ us) [] e uri = absurd (omega (arith, e))
locals_from k (u ∷ us) (l ∷ ls) e zero = refl
locals_from k (u ∷ us) (l ∷ ls) e (suc uri) = locals_from (k + 1) us ls (omega (arith, e)) uri

module _ (names : Names) (start : IsStart names) (most capacity : Option ℕ) where
  abbrev p : Partitions
  p = first_partitions names most capacity

  first_uris_are : uris p ≡ names.uris
  first_uris_are = uris_from 0 names.uris names.locals start.paired

  first_locals_are : (uri : ℕ) → locals p uri ≡ get_or names.locals uri []
  first_locals_are uri = locals_from 0 names.uris names.locals start.paired uri

  pub first_uri : (text : List ℕ) (place : ℕ) → uri_place names text ≡ Some place → IsLeast (uris p) text place
  first_uri text place e = subst (λ (z : List (List ℕ)). IsLeast z text place) (sym first_uris_are) (placed_least names.uris text place e)

  first_local : (uri : ℕ) (text : List ℕ) (place : ℕ) → local_place names uri text ≡ Some place → IsLeast (locals p uri) text place
  first_local uri text place e = subst (λ (z : List (List ℕ)). IsLeast z text place) (sym (first_locals_are uri)) (placed_least (get_or names.locals uri []) text place e)

  pub first_name : (name : QName) (place : NameId) → IsPlaced names name place → IsLeastName p place
  first_name name place h = record { uri = name.uri; local = name.local; least_uri = first_uri name.uri place.uri h.uri; least_local = first_local place.uri name.local place.local h.local }

  -- ---- xsi:type and xsi:nil
  -- a text that a list begins with
  begun_least : (n : ℕ) (front texts : List (List ℕ)) (text : List ℕ) (place : ℕ) → take n texts ≡ front → least_place front text ≡ Some place → IsLeast texts text place
  begun_least n front texts text place e h =
      let whole : front ++ drop n texts ≡ texts = ap (λ (z : List (List ℕ)). z ++ drop n texts) (sym e) ∙ take-append-drop n texts in
      least_found texts text place (subst (λ (z : List (List ℕ)). least_place z text ≡ Some place) whole (position_append (λ t. bytes_eq t text) place front (drop n texts) h))

  xsi_uri : List ℕ
  xsi_uri = get_or first_uris 2 []

  xsi_stands : IsLeast (uris p) xsi_uri 2
  unfolding xsi_uri
  xsi_stands = subst (λ (z : List (List ℕ)). IsLeast z xsi_uri 2) (sym first_uris_are) (begun_least 3 first_uris names.uris xsi_uri 2 start.first refl)

  third_is : (ls : List (List (List ℕ))) → 3 ≤ length ls → IfSome (slice_get ls 2) (λ list. take 2 list ≡ xsi_names) → take 2 (get_or ls 2 []) ≡ xsi_names
  third_is [] few h = absurd (omega (arith, few))
  third_is (a ∷ []) few h = absurd (omega (arith, few))
  third_is (a ∷ b ∷ []) few h = absurd (omega (arith, few))
  third_is (a ∷ b ∷ c ∷ ls) few h = h

  three_uris : 3 ≤ length names.uris
  three_uris = omega (arith, length-take 3 names.uris, ap (λ (z : List (List ℕ)). length z) start.first)

  xsi_local : (text : List ℕ) (place : ℕ) → least_place xsi_names text ≡ Some place → IsLeast (locals p 2) text place
  xsi_local text place h = subst (λ (z : List (List ℕ)). IsLeast z text place) (sym (first_locals_are 2)) (begun_least 2 xsi_names (get_or names.locals 2 []) text place (third_is names.locals (omega (arith, three_uris, start.paired)) start.third) h)

  pub first_type : IsLeastName p type_name
  first_type = record { uri = xsi_uri; local = get_or xsi_names 1 []; least_uri = xsi_stands; least_local = xsi_local (get_or xsi_names 1 []) 1 refl }

  pub first_nil : IsLeastName p nil_name
  first_nil = record { uri = xsi_uri; local = get_or xsi_names 0 []; least_uri = xsi_stands; least_local = xsi_local (get_or xsi_names 0 []) 0 refl }
