-- What a code can tell of a name, and that the name is written alike by each code that tells it.
use Rattle.std.proofs.Common.{◌≡◌, ℕ, ◌<◌, Bool, true, false, ◌&&◌, eqb, List, length, Option, Some, None, refl, sym, ap, ◌∙◌, subst, inl, inr, arith}
use Rattle.std.proofs.lemmas.Bool.{and_parts, cases_Bool, cases_lt, eq-eqb, eqb-true, ne_eqb}
use Rattle.std.proofs.lemmas.Option.{slice_get_within}
use Rattle.std.proofs.lemmas.Slice.Eq.{bytes_eq-Decides}
use Rattle.exi_builtin.specs.Learning.{is_type}
use Rattle.exi_gram.specs.Switches.{align_of, prefixes}
use Rattle.exi_names.specs.declared.names.NameId.{NameId}
use Rattle.exi_names.specs.declared.names.QName.{QName}
use Rattle.exi_names.specs.NameMaps.{same_name}
use Rattle.exi_names.specs.StartTables.{IsStart}
use Rattle.exi_tables.specs.Growth.{IsLeast, KeepsAll}
use Rattle.exi_tables.specs.Partitions.{Partitions, least_place, live_at, locals, uris}
use Rattle.exi_tables.specs.Partitions.{prefixes as table_prefixes}
use Rattle.exi_tables.proofs.Given.{same_is, same_itself}
use Rattle.exi_tables.proofs.Least.{least_found, least_none}
use Rattle.exi_typed.specs.Strings.{Named, place_in}
use Rattle.exi_typed.specs.Written.{after_local, after_name, after_uri, name_bits, prefix_bits, space_for, under_bits}
use Rattle.exi_typed.specs.WrittenLaws.{name_units, named_for}
use Rattle.exi_typed.proofs.Writes.{local_new, space_new}
use Rattle.exi_processing.specs.Configurations.{Setting, first_tables}
use Rattle.exi_processing.specs.Contents.{is_nil}
use Rattle.exi_processing.specs.Rules.{Telling, known, nil_name, spelled, type_name, under}
use Rattle.exi_processing.specs.Sound.{FitsTelling, IsLeastName}
use Rattle.exi_processing.specs.declared.rule.Telling.{Telling as Told}
use Rattle.exi_processing.specs.declared.rule.Telling.TheVariants as told
use Rattle.exi_writing.specs.Contents.{told_name}
use Rattle.exi_writing.specs.Pieces.{can_know, can_know_under, can_name, if_spelled, is_at, is_text, named_under, prefixes_for, stands_at}
use Rattle.exi_choice.specs.Fitting.{is_nil_at, is_type_at}
use Rattle.exi_choice.specs.Wanted.{is_told, place_told, same_place, same_uri, told_local, told_of, told_under}
use Rattle.exi_choice.proofs.FirstPlaces.{stand_within}

-- ---- by its places

known_is : (a b : NameId) → told.Known a ≡ told.Known b → a ≡ b
known_is a b e = cc

pub same_place_is : (own : Told) (id : NameId) → same_place own id ≡ true → own ≡ told.Known id
same_place_is told.Spelled id h = absurd cc
same_place_is (told.Under uri) id h = absurd cc
same_place_is (told.Known own) id h = ap told.Known (sym (same_is id own h))

pub record IsFound (p : Partitions) (n : QName) (id : NameId) : Type 0 where
  pub uri : least_place (uris p) n.uri ≡ Some id.uri
  pub local : least_place (locals p id.uri) n.local ≡ Some id.local

found_local : (p : Partitions) (n : QName) (uri : ℕ) (o : Option ℕ) (id : NameId) → least_place (uris p) n.uri ≡ Some uri → least_place (locals p uri) n.local ≡ o → told_local uri o ≡ told.Known id → IsFound p n id
found_local p n uri None id e f h = absurd cc
found_local p n uri (Some local) id e f h =
    let same : record { uri = uri; local = local } ≡ id = known_is (record { uri = uri; local = local }) id h in
    subst (λ (x : NameId). IsFound p n x) same record { uri = e; local = f }

found_by : (p : Partitions) (n : QName) (o : Option ℕ) (id : NameId) → least_place (uris p) n.uri ≡ o → told_under p o n.local ≡ told.Known id → IsFound p n id
found_by p n None id e h = absurd cc
found_by p n (Some uri) id e h = found_local p n uri (least_place (locals p uri) n.local) id e refl h

pub found_is : (p : Partitions) (n : QName) (id : NameId) → told_of p n ≡ told.Known id → IsFound p n id
found_is p n id h = found_by p n (least_place (uris p) n.uri) id refl h

-- what is wanted by these places was found there
pub found_told : (p : Partitions) (n : QName) (id : NameId) → is_told (told_of p n) (known id) ≡ true → IsFound p n id
found_told p n id h = found_is p n id (same_place_is (told_of p n) id h)

pub found_place : (p : Partitions) (n : QName) (id : NameId) → IsFound p n id → told_of p n ≡ told.Known id
found_place p n id f = rw (f.uri, f.local) refl

-- ---- by its URI's place
uri_local : (uri place : ℕ) (o : Option ℕ) → same_uri (told_local uri o) place ≡ true → uri ≡ place
uri_local uri place None h = eqb-true uri place h
uri_local uri place (Some local) h = eqb-true uri place h

uri_by : (p : Partitions) (n : QName) (o : Option ℕ) (place : ℕ) → least_place (uris p) n.uri ≡ o → same_uri (told_under p o n.local) place ≡ true → least_place (uris p) n.uri ≡ Some place
uri_by p n None place e h = absurd cc
uri_by p n (Some uri) place e h = e ∙ ap (λ (z : ℕ). Some z) (uri_local uri place (least_place (locals p uri) n.local) h)

pub uri_told : (p : Partitions) (n : QName) (place : ℕ) → is_told (told_of p n) (under place) ≡ true → least_place (uris p) n.uri ≡ Some place
uri_told p n place h = uri_by p n (least_place (uris p) n.uri) place refl h

pub uri_place : (p : Partitions) (n : QName) (place : ℕ) → least_place (uris p) n.uri ≡ Some place → is_told (told_of p n) (under place) ≡ true
uri_place p n place e = rw e (by (least_place (locals p place) n.local))
  where
    by : (o : Option ℕ) → same_uri (told_local place o) place ≡ true
    by None = eq-eqb place place refl
    by (Some local) = eq-eqb place place refl

-- ---- texts at places
bytes_same : (x : List ℕ) → is_text (Some x) x ≡ true
bytes_same x = (bytes_eq-Decides x x).1 refl

stands_by : (o : Option (List ℕ)) (x : List ℕ) → o ≡ Some x → is_text o x ≡ true
stands_by o x e = ap (λ (z : Option (List ℕ)). is_text z x) e ∙ bytes_same x

text_is : (o : Option (List ℕ)) (x : List ℕ) → is_text o x ≡ true → o ≡ Some x
text_is None x h = absurd cc
text_is (Some y) x h = ap (λ (z : List ℕ). Some z) ((bytes_eq-Decides y x).0 h)

some_text : (a b : List ℕ) → Some a ≡ Some b → a ≡ b
some_text a b e = cc

-- a name that was found stands at its places
found_at : (p : Partitions) (n : QName) (id : NameId) → IsFound p n id → is_at p id n ≡ true
found_at p n id f =
    let u = stands_by (live_at (uris p) id.uri) n.uri (least_found (uris p) n.uri id.uri f.uri).found in
    let l = stands_by (live_at (locals p id.uri) id.local) n.local (least_found (locals p id.uri) n.local id.local f.local).found in
    rw (u, l) refl

-- a place that the code tells is the least of the text that stands there
least_is : (texts : List (List ℕ)) (x : List ℕ) (place : ℕ) (o : Option ℕ) → IsLeast texts x place → least_place texts x ≡ o → least_place texts x ≡ Some place
least_is texts x place None l e = absurd (least_none texts x place e l.found)
least_is texts x place (Some k) l e =
    let f = least_found texts x k e in
    e ∙ ap (λ (z : ℕ). Some z) (both_least k place f l)
  where
    both_least : (a b : ℕ) → IsLeast texts x a → IsLeast texts x b → a ≡ b
    both_least a b u v = elim (cases_lt a b) [
      | inl less ↦ absurd (v.least a less u.found)
      | inr le ↦ elim (cases_lt b a) [
        | inl less ↦ absurd (u.least b less v.found)
        | inr ge ↦ omega (arith, le, ge)
      ]
    ]

stands_least : (texts : List (List ℕ)) (text x : List ℕ) (place : ℕ) → IsLeast texts text place → stands_at texts place x ≡ true → least_place texts x ≡ Some place
stands_least texts text x place l h =
    let same : text ≡ x = some_text text x (sym l.found ∙ text_is (live_at texts place) x h) in
    subst (λ (y : List ℕ). least_place texts y ≡ Some place) same (least_is texts text place (least_place texts text) l refl)

pub known_stands : (p : Partitions) (id : NameId) (n : QName) → IsLeastName p id → is_at p id n ≡ true → is_told (told_of p n) (known id) ≡ true
known_stands p id n l h =
    let k = and_parts (stands_at (uris p) id.uri n.uri) (stands_at (locals p id.uri) id.local n.local) h in
    let f : IsFound p n id = record { uri = stands_least (uris p) l.uri n.uri id.uri l.least_uri k.0; local = stands_least (locals p id.uri) l.local n.local id.local l.least_local k.1 } in
    ap (λ (o : Told). same_place o id) (found_place p n id f) ∙ same_itself id

pub under_stands : (p : Partitions) (uri : ℕ) (n : QName) → FitsTelling p (under uri) → stands_at (uris p) uri n.uri ≡ true → is_told (told_of p n) (under uri) ≡ true
under_stands p uri n l h = uri_place p n uri (stands_least (uris p) l.0 n.uri uri l.1 h)

-- ---- what is written of a name
-- its places once it is written, under a URI at a place
abbrev placed : Partitions → ℕ → QName → Named
placed p uri n = record { id = record { uri = uri; local = place_in (locals (after_local p uri n.local) uri) n.local }; name = n }

space_found : (p : Partitions) (n : QName) (uri : ℕ) → least_place (uris p) n.uri ≡ Some uri → space_for p n.uri ≡ uri
space_found p n uri e = rw e (rw e refl)

after_found : (p : Partitions) (n : QName) (uri : ℕ) → least_place (uris p) n.uri ≡ Some uri → after_uri p n.uri ≡ p
after_found p n uri e = rw e refl

pub placed_for : (p : Partitions) (n : QName) (uri : ℕ) → least_place (uris p) n.uri ≡ Some uri → named_for p n ≡ placed p uri n
placed_for p n uri e = ap (λ (q : Partitions). placed q (space_for p n.uri) n) (after_found p n uri e) ∙ ap (λ (u : ℕ). placed p u n) (space_found p n uri e)

after_placed : (p : Partitions) (n : QName) (uri : ℕ) → least_place (uris p) n.uri ≡ Some uri → after_name p n ≡ after_local p uri n.local
after_placed p n uri e = ap (λ (q : Partitions). after_local q (space_for p n.uri) n.local) (after_found p n uri e) ∙ ap (λ (u : ℕ). after_local p u n.local) (space_found p n uri e)

prefixes_found : (p : Partitions) (n : QName) (uri : ℕ) → least_place (uris p) n.uri ≡ Some uri → prefixes_for p n.uri ≡ table_prefixes p uri
prefixes_found p n uri e = ap (λ (q : Partitions). table_prefixes q (space_for p n.uri)) (after_found p n uri e) ∙ ap (λ (u : ℕ). table_prefixes p u) (space_found p n uri e)

local_kept : (p : Partitions) (n : QName) (id : NameId) → IsFound p n id → after_local p id.uri n.local ≡ p
local_kept p n id f = rw (f.local) refl

local_found : (p : Partitions) (n : QName) (id : NameId) → IsFound p n id → placed p id.uri n ≡ record { id = id; name = n }
local_found p n id f = rw (f.local) (rw (f.local) refl)

-- a code that tells the name writes it with the same places, and leaves the same tables
pub record TellsSo (g : Setting) (t : Telling) (n : QName) (p : Partitions) : Type 0 where
  pub bits : List Bool
  pub is : told_name g t n p ≡ if_spelled (can_name (prefixes g.options) p n) (record { item = named_for p n; bits = bits; tables = after_name p n; units = name_units n })

alike : (a b : Bool) (i j : Named) (q r : Partitions) (bits : List Bool) (units : List ℕ) → a ≡ b → i ≡ j → q ≡ r → if_spelled a (record { item = i; bits = bits; tables = q; units = units }) ≡ if_spelled b (record { item = j; bits = bits; tables = r; units = units })
alike a b i j q r bits units ea ei eq = rw (ea, ei, eq) refl

known_can : (keep : Bool) (p : Partitions) (n : QName) (id : NameId) → IsFound p n id → (is_at p id n && can_know keep p id n) ≡ can_name keep p n
known_can keep p n id f = rw (found_at p n id f, prefixes_found p n id.uri f.uri) refl

under_can : (keep : Bool) (p : Partitions) (n : QName) (uri : ℕ) → least_place (uris p) n.uri ≡ Some uri → can_know_under keep p uri n ≡ can_name keep p n
under_can keep p n uri e =
    let stands : stands_at (uris p) uri n.uri ≡ true = stands_by (live_at (uris p) uri) n.uri (least_found (uris p) n.uri uri e).found in
    rw (stands, prefixes_found p n uri e) refl

pub tells_so : (g : Setting) (t : Telling) (n : QName) (p : Partitions) → is_told (told_of p n) t ≡ true → TellsSo g t n p
tells_so g spelled n p h = record { bits = name_bits (prefixes g.options) (align_of g.options) p n; is = refl }
tells_so g (under uri) n p h =
    let e = uri_told p n uri h in
    let text = under_bits (prefixes g.options) (align_of g.options) p uri n.local n.prefix in
    record {
      bits = text;
      is = alike (can_know_under (prefixes g.options) p uri n) (can_name (prefixes g.options) p n) (named_under p uri n) (named_for p n) (after_local p uri n.local) (after_name p n) text (name_units n) (under_can (prefixes g.options) p n uri e) (sym (placed_for p n uri e)) (sym (after_placed p n uri e));
    }
tells_so g (known id) n p h =
    let f = found_told p n id h in
    let text = prefix_bits (prefixes g.options) (align_of g.options) p id.uri n.prefix in
    record {
      bits = text;
      is = alike (is_at p id n && can_know (prefixes g.options) p id n) (can_name (prefixes g.options) p n) (record { id = id; name = n }) (named_for p n) p (after_name p n) text (name_units n) (known_can (prefixes g.options) p n id f) (sym (placed_for p n id.uri f.uri ∙ local_found p n id f)) (sym (after_placed p n id.uri f.uri ∙ local_kept p n id f));
    }

-- ---- a new name is neither xsi:type nor xsi:nil
-- another place
not_less : (a b : ℕ) → b < a → (a ≡ b → ⊥)
not_less a b less e = absurd (omega (arith, less, e))

other_uri : (a b : NameId) → (a.uri ≡ b.uri → ⊥) → same_name a b ≡ false
other_uri a b h = rw (ne_eqb a.uri b.uri h) refl

other_local : (a b : NameId) → (a.local ≡ b.local → ⊥) → same_name a b ≡ false
other_local a b h = rw (ne_eqb a.local b.local h) (by (eqb a.uri b.uri))
  where
    by : (x : Bool) → (x && false) ≡ false
    by true = refl
    by false = refl

new_uri : (p : Partitions) (n : QName) (name : NameId) → name.uri < length (uris p) → least_place (uris p) n.uri ≡ None → same_name (named_for p n).id name ≡ false
new_uri p n name within e = other_uri (named_for p n).id name (not_less (space_for p n.uri) name.uri (subst (λ (k : ℕ). name.uri < k) (space_new p n.uri (sym e)) within))

new_local_at : (p : Partitions) (n : QName) (name : NameId) (uri : ℕ) → uri < length (uris p) → name.local < length (locals p name.uri) → least_place (locals p uri) n.local ≡ None → same_name (placed p uri n).id name ≡ false
new_local_at p n name uri inside within f = elim (cases_Bool (eqb uri name.uri)) [
  | inl h ↦ other_local (placed p uri n).id name (not_less (placed p uri n).id.local name.local (subst (λ (k : ℕ). name.local < k) (local_new p uri n.local inside (sym f)) (subst (λ (u : ℕ). name.local < length (locals p u)) (sym (eqb-true uri name.uri h)) within)))
  | inr h ↦ rw h refl
]

-- the places of a name that stands, and of one that will
abbrev at_places : Option NameId → NameId → Bool
at_places None name = false
at_places (Some id) name = same_name id name

place_is : (p : Partitions) (n : QName) (name : NameId) → name.uri < length (uris p) → name.local < length (locals p name.uri) → at_places (place_told (told_of p n)) name ≡ same_name (named_for p n).id name
place_is p n name within_uris within_locals = by_uri (least_place (uris p) n.uri) refl
  where
    by_local : (uri : ℕ) (o : Option ℕ) → least_place (uris p) n.uri ≡ Some uri → least_place (locals p uri) n.local ≡ o → at_places (place_told (told_local uri o)) name ≡ same_name (named_for p n).id name
    by_local uri None e f = sym (ap (λ (z : Named). same_name z.id name) (placed_for p n uri e) ∙ new_local_at p n name uri (slice_get_within (uris p) uri n.uri (least_found (uris p) n.uri uri e).found) within_locals f)
    by_local uri (Some local) e f =
        let id : NameId = record { uri = uri; local = local } in
        ap (λ (z : Named). same_name z.id name) (sym (placed_for p n uri e ∙ local_found p n id (record { uri = e; local = f })))

    by_uri : (o : Option ℕ) → least_place (uris p) n.uri ≡ o → at_places (place_told (told_under p o n.local)) name ≡ same_name (named_for p n).id name
    by_uri None e = sym (new_uri p n name within_uris e)
    by_uri (Some uri) e = by_local uri (least_place (locals p uri) n.local) e refl

type_at : (o : Option NameId) → is_type_at o ≡ at_places o type_name
type_at None = refl
type_at (Some id) = refl

nil_at : (o : Option NameId) → is_nil_at o ≡ at_places o nil_name
nil_at None = refl
nil_at (Some id) = refl

pub type_is : (g : Setting) (p : Partitions) (n : QName) → IsStart g.schema.names → KeepsAll (first_tables g) p → is_type_at (place_told (told_of p n)) ≡ is_type (named_for p n).id
type_is g p n start k =
    let s = stand_within g p start k in
    type_at (place_told (told_of p n)) ∙ place_is p n type_name s.0 s.1

pub nil_is : (g : Setting) (p : Partitions) (n : QName) → IsStart g.schema.names → KeepsAll (first_tables g) p → is_nil_at (place_told (told_of p n)) ≡ is_nil (named_for p n).id
nil_is g p n start k =
    let s = stand_within g p start k in
    nil_at (place_told (told_of p n)) ∙ place_is p n nil_name s.0 (omega (arith, s.1))
