-- Names and URIs that a schema declares and tells stand in its first tables, which are what all first tables are.
use Rattle.std.proofs.Common.{◌≡◌, ◌≢◌, ℕ, zero, suc, ◌+◌, ◌<◌, ◌≤◌, ◌^◌, Bool, true, false, cond, not, ◌||◌, Option, Some, None, List, [], ◌∷◌, ◌++◌, length, get_or, map, All, IfSome, refl, sym, ap, ◌∙◌, arith}
use Rattle.std.specs.List.{filter, flat_map, list_any, position, position_or_len, slice_get}
use Rattle.std.specs.Prelude.{codes}
use Rattle.std.specs.Str.{bytes_eq}
use Rattle.std.proofs.lemmas.Bool.{lt-ltb}
use Rattle.std.proofs.lemmas.List.{get_or-map, length-append, length-map}
use Rattle.std.proofs.lemmas.List.Elements.{All-cons, All-head, All-nil, All-tail, All-weaker}
use Rattle.std.proofs.lemmas.List.Folds.{list_any-append}
use Rattle.std.proofs.lemmas.List.Quantifiers.{position-Some}
use Rattle.std.proofs.lemmas.Slice.Eq.{bytes_eq-Decides}
use Rattle.exi_names.specs.StartTables.{IsStart, Names, xml_names, xsi_names}
use Rattle.exi_names.specs.declared.names.QName.{QName}
use Rattle.exi_gram.specs.Naming.{local_place, name_place, uri_place}
use Rattle.exi_gram.specs.Orders.{text_before}
use Rattle.exi_gram.specs.Schemas.{Stands, StandsIfAny}
use Rattle.exi_order.proofs.InOrder.{in_order-length}
use Rattle.xsd_model.specs.declared.parts.AttributeDecl.{AttributeDecl}
use Rattle.xsd_model.specs.declared.parts.ElementDecl.{ElementDecl}
use Rattle.xsd_model.specs.declared.parts.TypeDef.{TypeDef}
use Rattle.xsd_model.specs.Parts.{Parts}
use Rattle.exi_vocabulary.specs.FirstNames.{IsOfSize, all_locals, all_uris, declared_names, distinct_behind, first_names_of, known_locals, known_uris, locals_under, particle_uris, sorted_but, told_uris, type_names, type_uris}
use Rattle.exi_vocabulary.proofs.Distinct.{any_text, few_behind}
use Rattle.exi_vocabulary.proofs.InTheirOrder.{any-sorted}

-- ---- what is among texts has a place
before_end : {X : Type 0} (p : X → Bool) (xs : List X) → list_any p xs ≡ true → position_or_len p xs < length xs
before_end p [] e = absurd cc
before_end p (x ∷ xs) e = by (p x) e (before_end p xs)
  where
    by : (b : Bool) → (b || list_any p xs) ≡ true → (list_any p xs ≡ true → position_or_len p xs < length xs) → cond (not b) (1 + position_or_len p xs) 0 < suc (length xs)
    by true e h = omega arith
    by false e h = let less = h e in omega (arith, less)

pub placed : {X : Type 0} (p : X → Bool) (xs : List X) → list_any p xs ≡ true → position p xs ≡ Some (position_or_len p xs)
placed p xs e = ap (λ b. cond b (Some (position_or_len p xs)) None) (lt-ltb (position_or_len p xs) (length xs) (before_end p xs e))

is_some : {X : Type 0} (o : Option X) (x : X) → o ≡ Some x → o ≢ None
is_some o x e h = absurd cc

pub some_place : {X : Type 0} (p : X → Bool) (xs : List X) → list_any p xs ≡ true → position p xs ≢ None
some_place p xs e = is_some (position p xs) (position_or_len p xs) (placed p xs e)

name_placed : (names : Names) (name : QName) (uri local : ℕ) → uri_place names name.uri ≡ Some uri → local_place names uri name.local ≡ Some local → name_place names name ≡ Some (record { uri = uri; local = local })
name_placed names name uri local e h = rw (e, h) refl

-- a name stands, where the tables have its URI, and the list of its URI has its local name
pub stands : (uris : List (List ℕ)) (f : List ℕ → List (List ℕ)) (name : QName) → any_text name.uri uris ≡ true → any_text name.local (f name.uri) ≡ true → Stands (record { uris = uris; locals = map f uris }) name
stands uris f name e h =
    let names : Names = record { uris = uris; locals = map f uris } in
    let place : ℕ = position_or_len (bytes_eq name.uri) uris in
    let there : uri_place names name.uri ≡ Some place = placed (bytes_eq name.uri) uris e in
    let at = position-Some (bytes_eq name.uri) uris place [] there in
    let same : name.uri ≡ get_or uris place [] = (bytes_eq-Decides name.uri (get_or uris place [])).0 at.1 in
    let row : get_or (map f uris) place [] ≡ f name.uri = get_or-map f uris place [] [] at.0 ∙ ap f (sym same) in
    let within : local_place names place name.local ≡ Some (position_or_len (bytes_eq name.local) (f name.uri)) = ap (position (bytes_eq name.local)) row ∙ placed (bytes_eq name.local) (f name.uri) h in
    is_some (name_place names name) (record { uri = place; local = position_or_len (bytes_eq name.local) (f name.uri) }) (name_placed names name place (position_or_len (bytes_eq name.local) (f name.uri)) there within)

-- ---- what is told and declared
itself : (t : List ℕ) → bytes_eq t t ≡ true
itself t = (bytes_eq-Decides t t).1 refl

or_here : (a b : Bool) → a ≡ true → (a || b) ≡ true
or_here true b e = refl
or_here false b e = absurd cc

or_there : (a b : Bool) → b ≡ true → (a || b) ≡ true
or_there true b e = refl
or_there false b e = e

pub all_among : (ts : List (List ℕ)) → All (λ u. any_text u ts ≡ true) ts
all_among [] = All-nil (λ u. any_text u [] ≡ true)
all_among (t ∷ ts) =
    All-cons (λ u. any_text u (t ∷ ts) ≡ true) t ts (or_here (bytes_eq t t) (any_text t ts) (itself t))
    (All-weaker (λ u. any_text u ts ≡ true) (λ u. any_text u (t ∷ ts) ≡ true) (λ u e. or_there (bytes_eq u t) (any_text u ts) e) ts (all_among ts))

record IsThere (names : List QName) (n : QName) : Type 0 where
  uri : any_text n.uri (map (λ (m : QName). m.uri) names) ≡ true
  local : any_text n.local (locals_under n.uri names) ≡ true

there_first : (m : QName) (ms : List QName) → IsThere (m ∷ ms) m
there_first m ms = record {
  uri = or_here (bytes_eq m.uri m.uri) (any_text m.uri (map (λ (k : QName). k.uri) ms)) (itself m.uri);
  local = ap (λ b. any_text m.local (map (λ (k : QName). k.local) (cond b (m ∷ filter (λ k. bytes_eq m.uri k.uri) ms) (filter (λ k. bytes_eq m.uri k.uri) ms)))) (itself m.uri) ∙ or_here (bytes_eq m.local m.local) (any_text m.local (locals_under m.uri ms)) (itself m.local);
}

there_more : (m : QName) (ms : List QName) (n : QName) → IsThere ms n → IsThere (m ∷ ms) n
there_more m ms n h = record {
  uri = or_there (bytes_eq n.uri m.uri) (any_text n.uri (map (λ (k : QName). k.uri) ms)) h.uri;
  local = by (bytes_eq n.uri m.uri) h.local;
}
  where
    by : (b : Bool) → any_text n.local (locals_under n.uri ms) ≡ true → any_text n.local (map (λ (k : QName). k.local) (cond b (m ∷ filter (λ k. bytes_eq n.uri k.uri) ms) (filter (λ k. bytes_eq n.uri k.uri) ms))) ≡ true
    by true e = or_there (bytes_eq n.local m.local) (any_text n.local (locals_under n.uri ms)) e
    by false e = e

all_there : (names : List QName) → All (IsThere names) names
all_there [] = All-nil (IsThere [])
all_there (m ∷ ms) = All-cons (IsThere (m ∷ ms)) m ms (there_first m ms) (All-weaker (IsThere ms) (IsThere (m ∷ ms)) (there_more m ms) ms (all_there ms))

-- ---- (L2) each URI that is told has a place
pub uri_told : (p : Parts) (uri : List ℕ) → any_text uri (told_uris p) ≡ true → any_text uri (all_uris p) ≡ true
uri_told p uri e = any-sorted uri known_uris (told_uris p) e

pub has_place : (p : Parts) (uri : List ℕ) → any_text uri (told_uris p) ≡ true → uri_place (first_names_of p) uri ≢ None
has_place p uri e = some_place (bytes_eq uri) (all_uris p) (uri_told p uri e)

pub all_have_places : (p : Parts) → All (λ uri. uri_place (first_names_of p) uri ≢ None) (told_uris p)
all_have_places p = All-weaker (λ u. any_text u (told_uris p) ≡ true) (λ u. uri_place (first_names_of p) u ≢ None) (has_place p) (told_uris p) (all_among (told_uris p))

-- ---- (L1) each name that is declared stands in the tables
one_stands : (p : Parts) (n : QName) → IsThere (declared_names p) n → Stands (first_names_of p) n
one_stands p n h =
    let wild = flat_map type_uris p.types ++ flat_map particle_uris p.particles in
    let uris = map (λ (m : QName). m.uri) (declared_names p) in
    let told : any_text n.uri (told_uris p) ≡ true =
    or_there (bytes_eq n.uri p.target) (any_text n.uri (uris ++ wild)) (list_any-append (bytes_eq n.uri) uris wild ∙ or_here (any_text n.uri uris) (any_text n.uri wild) h.uri) in
    stands (all_uris p) (all_locals p) n (uri_told p n.uri told) (any-sorted n.local (known_locals n.uri) (locals_under n.uri (declared_names p)) h.local)

pub all_stand : (p : Parts) → All (Stands (first_names_of p)) (declared_names p)
all_stand p = All-weaker (IsThere (declared_names p)) (Stands (first_names_of p)) (one_stands p) (declared_names p) (all_there (declared_names p))

front : {X : Type 0} (P : X → Type 0) (xs ys : List X) → All P (xs ++ ys) → All P xs
front P [] ys all = All-nil P
front P (x ∷ xs) ys all = All-cons P x xs (All-head P x (xs ++ ys) all) (front P xs ys (All-tail P x (xs ++ ys) all))

back : {X : Type 0} (P : X → Type 0) (xs ys : List X) → All P (xs ++ ys) → All P ys
back P [] ys all = all
back P (x ∷ xs) ys all = back P xs ys (All-tail P x (xs ++ ys) all)

of_map : {X Y : Type 0} (P : Y → Type 0) (f : X → Y) (xs : List X) → All P (map f xs) → All (λ x. P (f x)) xs
of_map P f [] all = All-nil (λ x. P (f x))
of_map P f (x ∷ xs) all = All-cons (λ y. P (f y)) x xs (All-head P (f x) (map f xs) all) (of_map P f xs (All-tail P (f x) (map f xs) all))

pub elements_stand : (p : Parts) → All (λ e. Stands (first_names_of p) e.name) p.elements
elements_stand p =
    of_map (Stands (first_names_of p)) (λ e. e.name) p.elements
    (front (Stands (first_names_of p)) (map (λ e. e.name) p.elements) (map (λ a. a.name) p.attributes ++ flat_map type_names p.types) (all_stand p))

others_stand : (p : Parts) → All (Stands (first_names_of p)) (map (λ a. a.name) p.attributes ++ flat_map type_names p.types)
others_stand p = back (Stands (first_names_of p)) (map (λ e. e.name) p.elements) (map (λ a. a.name) p.attributes ++ flat_map type_names p.types) (all_stand p)

pub attributes_stand : (p : Parts) → All (λ a. Stands (first_names_of p) a.name) p.attributes
attributes_stand p =
    of_map (Stands (first_names_of p)) (λ a. a.name) p.attributes
    (front (Stands (first_names_of p)) (map (λ a. a.name) p.attributes) (flat_map type_names p.types) (others_stand p))

named_types : (names : Names) (types : List TypeDef) → All (Stands names) (flat_map type_names types) → All (λ t. StandsIfAny names t.name) types
named_types names [] all = All-nil (λ (t : TypeDef). StandsIfAny names t.name)
named_types names (t ∷ ts) all =
    All-cons (λ (u : TypeDef). StandsIfAny names u.name) t ts (by t.name (front (Stands names) (type_names t) (flat_map type_names ts) all))
    (named_types names ts (back (Stands names) (type_names t) (flat_map type_names ts) all))
  where
    of_name : Option QName → List QName
    of_name None = []
    of_name (Some name) = name ∷ []

    by : (o : Option QName) → All (Stands names) (of_name o) → StandsIfAny names o
    by None h = tt
    by (Some name) h = All-head (Stands names) name [] h

pub types_stand : (p : Parts) → All (λ t. StandsIfAny (first_names_of p) t.name) p.types
types_stand p = named_types (first_names_of p) p.types (back (Stands (first_names_of p)) (map (λ a. a.name) p.attributes) (flat_map type_names p.types) (others_stand p))

-- ---- (L3) they are what all first tables are
length-filter_le : {X : Type 0} (p : X → Bool) (xs : List X) → length (filter p xs) ≤ length xs
length-filter_le p [] = omega arith
length-filter_le p (x ∷ xs) = by (p x) (length-filter_le p xs)
  where
    by : (b : Bool) → length (filter p xs) ≤ length xs → length (cond b (x ∷ filter p xs) (filter p xs)) ≤ suc (length xs)
    by true e = omega (arith, e)
    by false e = omega (arith, e)

few_sorted : (known ts : List (List ℕ)) → length (known ++ sorted_but known ts) ≤ length known + length ts
few_sorted known ts =
    let sum : length (known ++ sorted_but known ts) ≡ length known + length (sorted_but known ts) = length-append known (sorted_but known ts) in
    let same : length (sorted_but known ts) ≡ length (distinct_behind known ts) = in_order-length text_before (distinct_behind known ts) in
    let few : length (distinct_behind known ts) ≤ length ts = few_behind known ts in
    omega (arith, sum, same, few)

few_known : (uri : List ℕ) → length (known_locals uri) ≤ 4
few_known uri = by (bytes_eq uri (codes "http://www.w3.org/XML/1998/namespace")) (bytes_eq uri (codes "http://www.w3.org/2001/XMLSchema-instance"))
  where
    by : (a b : Bool) → length (cond a xml_names (cond b xsi_names [])) ≤ 4
    by true b = omega arith
    by false true = omega arith
    by false false = omega arith

few_under : (uri : List ℕ) (names : List QName) → length (locals_under uri names) ≤ length names
few_under uri names =
    let same : length (locals_under uri names) ≡ length (filter (λ n. bytes_eq uri n.uri) names) = length-map (filter (λ n. bytes_eq uri n.uri) names) (λ (n : QName). n.local) in
    let few = length-filter_le (λ (n : QName). bytes_eq uri n.uri) names in
    omega (arith, same, few)

few_named : (types : List TypeDef) → length (flat_map type_names types) ≤ length types
few_named [] = omega arith
few_named (t ∷ ts) =
    let sum : length (flat_map type_names (t ∷ ts)) ≡ length (type_names t) + length (flat_map type_names ts) = length-append (type_names t) (flat_map type_names ts) in
    let one : length (type_names t) ≤ 1 = by t.name in
    let rest = few_named ts in
    omega (arith, sum, one, rest)
  where
    of_name : Option QName → List QName
    of_name None = []
    of_name (Some name) = name ∷ []

    by : (o : Option QName) → length (of_name o) ≤ 1
    by None = omega arith
    by (Some name) = omega arith

few_declared : (p : Parts) → length (declared_names p) ≤ length p.elements + (length p.attributes + length p.types)
few_declared p =
    let elements = map (λ (e : ElementDecl). e.name) p.elements in
    let attributes = map (λ (a : AttributeDecl). a.name) p.attributes in
    let types = flat_map type_names p.types in
    let all : length (declared_names p) ≡ length elements + length (attributes ++ types) = length-append elements (attributes ++ types) in
    let some : length (attributes ++ types) ≡ length attributes + length types = length-append attributes types in
    let of_elements : length elements ≡ length p.elements = length-map p.elements (λ (e : ElementDecl). e.name) in
    let of_attributes : length attributes ≡ length p.attributes = length-map p.attributes (λ (a : AttributeDecl). a.name) in
    let of_types : length types ≤ length p.types = few_named p.types in
    omega (arith, all, some, of_elements, of_attributes, of_types)

at_any : {X Y : Type 0} (P : Y → Type 0) (f : X → Y) → ((x : X) → P (f x)) → (xs : List X) (i : ℕ) → IfSome (slice_get (map f xs) i) P
at_any P f h [] i = tt
at_any P f h (x ∷ xs) zero = h x
at_any P f h (x ∷ xs) (suc i) = at_any P f h xs i

pub is_start : (p : Parts) → IsOfSize p → IsStart (first_names_of p)
is_start p size =
    let declared = few_declared p in
    record {
      paired = length-map (all_uris p) (all_locals p);
      first = refl;
      third = refl;
      few_uris =
          (let few = few_sorted known_uris (told_uris p) in
          let known : length known_uris ≡ 4 = refl in
          omega (arith, few, known, size));
      few_locals = at_any (λ (list : List (List ℕ)). length list ≤ 2 ^ 30) (all_locals p) (λ uri.
          let few = few_sorted (known_locals uri) (locals_under uri (declared_names p)) in
          let known = few_known uri in
          let under = few_under uri (declared_names p) in
          omega (arith, few, known, under, declared, size)) (all_uris p);
    }

pub tables_are : (p : Parts) (uris : List (List ℕ)) (locals : List (List (List ℕ))) → uris ≡ all_uris p → locals ≡ map (all_locals p) (all_uris p) → record { uris = uris; locals = locals } ≡ first_names_of p
tables_are p uris locals u l i = record { uris = u i; locals = l i }
