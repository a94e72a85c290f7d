-- What a code tells of a name stands in the tables, at its least places.
use Rattle.std.proofs.Common.{◌≡◌, ℕ, true, List, Option, Some, None, refl, sym, ap, ◌∙◌, subst}
use Rattle.std.proofs.lemmas.Bool.{eqb-true}
use Rattle.std.proofs.lemmas.Option.{slice_get_within}
use Rattle.std.proofs.lemmas.Slice.Eq.{bytes_eq-Decides}
use Rattle.exi_names.specs.declared.names.NameId.{NameId}
use Rattle.exi_names.specs.declared.names.QName.{QName}
use Rattle.exi_tables.specs.Partitions.{IsName, Partitions, least_place, live_at, locals, uris}
use Rattle.exi_tables.proofs.Given.{same_is}
use Rattle.exi_tables.proofs.Least.{least_found}
use Rattle.exi_processing.specs.Rules.{known, under}
use Rattle.exi_processing.specs.declared.rule.Telling.{Telling as Told}
use Rattle.exi_processing.specs.declared.rule.Telling.TheVariants as told
use Rattle.exi_writing.specs.Pieces.{is_at, is_text}
use Rattle.exi_choice.specs.Wanted.{is_told, told_local, told_of, told_under}

-- ---- a whole name
pub record IsFound (p : Partitions) (n : QName) (id : NameId) : Type 0 where
  pub uri : least_place (uris p) n.uri ≡ Some id.uri
  pub local : least_place (locals p id.uri) n.local ≡ Some id.local

abbrev told_id : Told → NameId
told_id told.Spelled = record { uri = 0; local = 0 }
told_id (told.Under uri) = record { uri = 0; local = 0 }
told_id (told.Known id) = id

found_local : (p : Partitions) (n : QName) (id : NameId) (uri : ℕ) (o : Option ℕ) → least_place (uris p) n.uri ≡ Some uri → least_place (locals p uri) n.local ≡ o → told_local uri o ≡ told.Known id → IsFound p n id
found_local p n id uri None e f h = absurd cc
found_local p n id uri (Some local) e f h =
    let same : record { uri = uri; local = local } ≡ id = ap told_id h in
    subst (λ (i : NameId). IsFound p n i) same (record { uri = e; local = f })

found_by : (p : Partitions) (n : QName) (id : NameId) (o : Option ℕ) → least_place (uris p) n.uri ≡ o → told_under p o n.local ≡ told.Known id → IsFound p n id
found_by p n id None e h = absurd cc
found_by p n id (Some uri) e h = found_local p n id uri (least_place (locals p uri) n.local) e refl h

pub found_known : (p : Partitions) (n : QName) (id : NameId) → told_of p n ≡ told.Known id → IsFound p n id
found_known p n id h = found_by p n id (least_place (uris p) n.uri) refl h

stands_by : (o : Option (List ℕ)) (x : List ℕ) → o ≡ Some x → is_text o x ≡ true
stands_by o x e = ap (λ (z : Option (List ℕ)). is_text z x) e ∙ (bytes_eq-Decides x x).1 refl

pub found_at : (p : Partitions) (n : QName) (id : NameId) → IsFound p n id → is_at p id n ≡ true
found_at p n id f =
    let u = stands_by (live_at (uris p) id.uri) n.uri (least_found (uris p) n.uri id.uri f.uri).found in
    let l = stands_by (live_at (locals p id.uri) id.local) n.local (least_found (locals p id.uri) n.local id.local f.local).found in
    rw (u, l) refl

pub found_name : (p : Partitions) (n : QName) (id : NameId) → IsFound p n id → IsName p id
found_name p n id f = record {
  within_uris = slice_get_within (uris p) id.uri n.uri (least_found (uris p) n.uri id.uri f.uri).found;
  within_locals = slice_get_within (locals p id.uri) id.local n.local (least_found (locals p id.uri) n.local id.local f.local).found;
}

-- a production tells these places of it
pub told_known : (o : Told) (id : NameId) → is_told o (known id) ≡ true → o ≡ told.Known id
told_known told.Spelled id h = absurd cc
told_known (told.Under uri) id h = absurd cc
told_known (told.Known own) id h = ap (λ (i : NameId). told.Known i) (sym (same_is id own h))

-- ---- its URI
place_local : (uri own : ℕ) (o : Option ℕ) → is_told (told_local own o) (under uri) ≡ true → own ≡ uri
place_local uri own None h = eqb-true own uri h
place_local uri own (Some local) h = eqb-true own uri h

place_by : (p : Partitions) (n : QName) (uri : ℕ) (o : Option ℕ) → least_place (uris p) n.uri ≡ o → is_told (told_under p o n.local) (under uri) ≡ true → least_place (uris p) n.uri ≡ Some uri
place_by p n uri None e h = absurd cc
place_by p n uri (Some own) e h = e ∙ ap (λ (k : ℕ). Some k) (place_local uri own (least_place (locals p own) n.local) h)

pub told_place : (p : Partitions) (n : QName) (uri : ℕ) → is_told (told_of p n) (under uri) ≡ true → least_place (uris p) n.uri ≡ Some uri
told_place p n uri h = place_by p n uri (least_place (uris p) n.uri) refl h
