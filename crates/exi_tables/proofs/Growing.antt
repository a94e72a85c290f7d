-- What growth adds and keeps.
use Rattle.std.proofs.Common.{◌≡◌, ◌≢◌, ℕ, zero, suc, ◌<◌, ◌≤◌, ◌+◌, List, [], ◌∷◌, ◌++◌, map, length, refl, ap, ◌∙◌, arith, inl, inr, Option, Some, None, length-append, ◌⊎◌, get_or}
use Rattle.std.specs.Prelude.{slice_get, option_map}
use Rattle.std.proofs.lemmas.Bool.{cases_eq}
use Rattle.std.proofs.lemmas.List.{length-map, map-append}
use Rattle.std.proofs.lemmas.Option.{slice_get_within, slice_get-get_or}
use Rattle.exi_names.specs.declared.names.NameId.{NameId}
use Rattle.exi_tables.specs.Partitions.{Namespace, Partitions, IsName, uris, locals, locals_in, prefixes, prefixes_in, and_local, and_prefix, with_uri, with_local, with_prefix, with_value}
use Rattle.exi_tables.specs.Values.{changed_at}
use Rattle.exi_tables.specs.Growth.{KeepsPlaces, KeepsAll, NoneLonger}

-- lists that have grown

pub keeps_same : (xs : List (List ℕ)) → KeepsPlaces xs xs
keeps_same xs place text is = is

pub keeps_append : (xs ys : List (List ℕ)) → KeepsPlaces xs (xs ++ ys)
keeps_append [] ys place text is = absurd (omega (arith, slice_get_within [] place text is))
keeps_append (x ∷ xs) ys zero text is = is
keeps_append (x ∷ xs) ys (suc place) text is = keeps_append xs ys place text is

pub keeps_along : (xs ys zs : List (List ℕ)) → ys ≡ xs ++ zs → KeepsPlaces xs ys
keeps_along xs ys zs e place text is = rw e (keeps_append xs zs place text is)

-- one namespace more, or changed

pub get_changed : {X : Type 0} (xs : List X) (i : ℕ) (f : X → X) → slice_get (changed_at xs i f) i ≡ option_map f (slice_get xs i)
get_changed [] i f = refl
get_changed (x ∷ xs) zero f = refl
get_changed (x ∷ xs) (suc i) f = get_changed xs i f

pub get_others : {X : Type 0} (xs : List X) (i j : ℕ) (f : X → X) → j ≢ i → slice_get (changed_at xs i f) j ≡ slice_get xs j
get_others [] i j f ne = refl
get_others (x ∷ xs) zero zero f ne = absurd (ne refl)
get_others (x ∷ xs) zero (suc j) f ne = refl
get_others (x ∷ xs) (suc i) zero f ne = refl
get_others (x ∷ xs) (suc i) (suc j) f ne = get_others xs i j f (λ e. ne (ap suc e))

pub map-changed_at : {X Y : Type 0} (g : X → Y) (xs : List X) (i : ℕ) (f : X → X) → ((x : X) → g (f x) ≡ g x) → map g (changed_at xs i f) ≡ map g xs
map-changed_at g [] i f same = refl
map-changed_at g (x ∷ xs) zero f same = ap (λ y. y ∷ map g xs) (same x)
map-changed_at g (x ∷ xs) (suc i) f same = ap (λ ys. g x ∷ ys) (map-changed_at g xs i f same)

pub get_appended : {X : Type 0} (xs : List X) (y : X) (i : ℕ) → (slice_get (xs ++ y ∷ []) i ≡ slice_get xs i) ⊎ ((slice_get xs i ≡ None) × (slice_get (xs ++ y ∷ []) i ≡ Some y))
get_appended [] y zero = inr (refl, refl)
get_appended [] y (suc i) = inl refl
get_appended (x ∷ xs) y zero = inl refl
get_appended (x ∷ xs) y (suc i) = get_appended xs y i

-- the end

abbrev pub no_namespace : Namespace
no_namespace = record { uri = []; locals = []; prefixes = [] }

pub changed_within : (h : Option Namespace → List (List ℕ)) (f : Namespace → Namespace) (ns : List Namespace) (uri : ℕ) (more : List (List ℕ)) →
    ((n : Namespace) → h (Some (f n)) ≡ h (Some n) ++ more) → uri < length (map (λ n. n.uri) ns) →
    h (slice_get (changed_at ns uri f) uri) ≡ h (slice_get ns uri) ++ more
changed_within h f ns uri more grows within =
    let inside : uri < length ns = rw length-map at within in
    let at : slice_get ns uri ≡ Some (get_or ns uri no_namespace) = slice_get-get_or ns uri no_namespace inside in
    let there : slice_get (changed_at ns uri f) uri ≡ Some (f (get_or ns uri no_namespace)) = get_changed ns uri f ∙ ap (option_map f) at in
    rw (there, at) (grows (get_or ns uri no_namespace))

pub changed_others : (h : Option Namespace → List (List ℕ)) (f : Namespace → Namespace) (ns : List Namespace) (uri other : ℕ) → other ≢ uri →
    h (slice_get (changed_at ns uri f) other) ≡ h (slice_get ns other)
changed_others h f ns uri other ne = ap h (get_others ns uri other f ne)

-- each place stays

pub keeps_nothing : (ys : List (List ℕ)) → KeepsPlaces [] ys
keeps_nothing ys = keeps_append [] ys

pub appended_keeps : (h : Option Namespace → List (List ℕ)) → h None ≡ [] → (ns : List Namespace) (n : Namespace) (u : ℕ) →
    KeepsPlaces (h (slice_get ns u)) (h (slice_get (ns ++ n ∷ []) u))
appended_keeps h empty ns n u =
    elim (get_appended ns n u) [
      | inl same ↦ rw same (keeps_same (h (slice_get ns u)))
      | inr past ↦ rw (past.0, empty) (keeps_nothing (h (slice_get (ns ++ n ∷ []) u)))
    ]

pub changed_keeps : (h : Option Namespace → List (List ℕ)) (f : Namespace → Namespace) → ((o : Option Namespace) → KeepsPlaces (h o) (h (option_map f o))) →
    (ns : List Namespace) (uri u : ℕ) → KeepsPlaces (h (slice_get ns u)) (h (slice_get (changed_at ns uri f) u))
changed_keeps h f keeps ns uri u =
    elim (cases_eq u uri) [
      | inl same ↦ rw (same, get_changed ns uri f) (keeps (slice_get ns uri))
      | inr other ↦ rw (get_others ns uri u f other) (keeps_same (h (slice_get ns u)))
    ]

pub uris_changed : (f : Namespace → Namespace) (ns : List Namespace) (uri : ℕ) → ((n : Namespace) → (f n).uri ≡ n.uri) →
    map (λ n. n.uri) (changed_at ns uri f) ≡ map (λ n. n.uri) ns
uris_changed f ns uri same = map-changed_at (λ n. n.uri) ns uri f same

pub keeps_uri : (p : Partitions) (text : List ℕ) → KeepsAll p (with_uri p text)
keeps_uri p text =
    let n : Namespace = record { uri = text; locals = []; prefixes = [] } in
    record {
      each_uri = keeps_along (uris p) (uris (with_uri p text)) (text ∷ []) (map-append (λ m. m.uri) p.namespaces (n ∷ []));
      each_local = appended_keeps locals_in refl p.namespaces n;
      each_prefix = appended_keeps prefixes_in refl p.namespaces n;
    }

keeps_more_locals : (text : List ℕ) (o : Option Namespace) → KeepsPlaces (locals_in o) (locals_in (option_map (and_local text) o))
keeps_more_locals text None = keeps_same []
keeps_more_locals text (Some n) = keeps_append n.locals (text ∷ [])

keeps_those_prefixes : (text : List ℕ) (o : Option Namespace) → KeepsPlaces (prefixes_in o) (prefixes_in (option_map (and_local text) o))
keeps_those_prefixes text None = keeps_same []
keeps_those_prefixes text (Some n) = keeps_same n.prefixes

keeps_more_prefixes : (text : List ℕ) (o : Option Namespace) → KeepsPlaces (prefixes_in o) (prefixes_in (option_map (and_prefix text) o))
keeps_more_prefixes text None = keeps_same []
keeps_more_prefixes text (Some n) = keeps_append n.prefixes (text ∷ [])

keeps_those_locals : (text : List ℕ) (o : Option Namespace) → KeepsPlaces (locals_in o) (locals_in (option_map (and_prefix text) o))
keeps_those_locals text None = keeps_same []
keeps_those_locals text (Some n) = keeps_same n.locals

pub keeps_local : (p : Partitions) (uri : ℕ) (text : List ℕ) → KeepsAll p (with_local p uri text)
keeps_local p uri text =
    let f : Namespace → Namespace = and_local text in
    record {
      each_uri = rw (uris_changed f p.namespaces uri (λ n. refl)) (keeps_same (uris p));
      each_local = changed_keeps locals_in f (keeps_more_locals text) p.namespaces uri;
      each_prefix = changed_keeps prefixes_in f (keeps_those_prefixes text) p.namespaces uri;
    }

pub keeps_prefix : (p : Partitions) (uri : ℕ) (text : List ℕ) → KeepsAll p (with_prefix p uri text)
keeps_prefix p uri text =
    let f : Namespace → Namespace = and_prefix text in
    record {
      each_uri = rw (uris_changed f p.namespaces uri (λ n. refl)) (keeps_same (uris p));
      each_local = changed_keeps locals_in f (keeps_those_locals text) p.namespaces uri;
      each_prefix = changed_keeps prefixes_in f (keeps_more_prefixes text) p.namespaces uri;
    }

pub keeps_value : (p : Partitions) (name : NameId) (text : List ℕ) → KeepsAll p (with_value p name text)
keeps_value p name text = record {
  each_uri = keeps_same (uris p);
  each_local = λ uri. keeps_same (locals p uri);
  each_prefix = λ uri. keeps_same (prefixes p uri);
}

pub keeps_within : (xs ys : List (List ℕ)) (i : ℕ) → KeepsPlaces xs ys → i < length xs → i < length ys
keeps_within xs ys i keeps within = slice_get_within ys i (get_or xs i []) (keeps i (get_or xs i []) (slice_get-get_or xs i [] within))

pub keeps_name : (old new : Partitions) (name : NameId) → KeepsAll old new → IsName old name → IsName new name
keeps_name old new name keeps is = record {
  within_uris = keeps_within (uris old) (uris new) name.uri keeps.each_uri is.within_uris;
  within_locals = keeps_within (locals old name.uri) (locals new name.uri) name.local (keeps.each_local name.uri) is.within_locals;
}

-- at most one longer

pub appended_longer : (h : Option Namespace → List (List ℕ)) (most : ℕ) (ns : List Namespace) (n : Namespace) → length (h (Some n)) ≤ most + 1 →
    ((u : ℕ) → length (h (slice_get ns u)) ≤ most) → (u : ℕ) → length (h (slice_get (ns ++ n ∷ []) u)) ≤ most + 1
appended_longer h most ns n few all u =
    elim (get_appended ns n u) [
      | inl same ↦ rw same (omega (arith, all u))
      | inr past ↦ rw past.1 few
    ]

pub changed_longer : (h : Option Namespace → List (List ℕ)) (f : Namespace → Namespace) (most : ℕ) → ((o : Option Namespace) → length (h (option_map f o)) ≤ length (h o) + 1) →
    (ns : List Namespace) (uri : ℕ) → ((u : ℕ) → length (h (slice_get ns u)) ≤ most) → (u : ℕ) → length (h (slice_get (changed_at ns uri f) u)) ≤ most + 1
changed_longer h f most grows ns uri all u =
    elim (cases_eq u uri) [
      | inl same ↦ rw (same, get_changed ns uri f) (omega (arith, grows (slice_get ns uri), all uri))
      | inr other ↦ rw (get_others ns uri u f other) (omega (arith, all u))
    ]

pub longer_uri : (most : ℕ) (p : Partitions) (text : List ℕ) → NoneLonger most p → NoneLonger (most + 1) (with_uri p text)
longer_uri most p text few =
    let n : Namespace = record { uri = text; locals = []; prefixes = [] } in
    let long : uris (with_uri p text) ≡ uris p ++ text ∷ [] = map-append (λ m. m.uri) p.namespaces (n ∷ []) in
    let none : 0 ≤ most + 1 = omega arith in
    record {
      few_uris = rw long (omega (arith, length-append (uris p) (text ∷ []), few.few_uris));
      few_locals = appended_longer locals_in most p.namespaces n none few.few_locals;
      few_prefixes = appended_longer prefixes_in most p.namespaces n none few.few_prefixes;
      few_values = omega (arith, few.few_values);
      few_own = λ name. omega (arith, few.few_own name);
    }

pub longer_locals : (text : List ℕ) (o : Option Namespace) → length (locals_in (option_map (and_local text) o)) ≤ length (locals_in o) + 1
longer_locals text None = omega arith
longer_locals text (Some n) = omega (arith, length-append n.locals (text ∷ []))

same_prefixes : (text : List ℕ) (o : Option Namespace) → length (prefixes_in (option_map (and_local text) o)) ≤ length (prefixes_in o) + 1
same_prefixes text None = omega arith
same_prefixes text (Some n) = omega arith

pub longer_prefixes : (text : List ℕ) (o : Option Namespace) → length (prefixes_in (option_map (and_prefix text) o)) ≤ length (prefixes_in o) + 1
longer_prefixes text None = omega arith
longer_prefixes text (Some n) = omega (arith, length-append n.prefixes (text ∷ []))

same_locals : (text : List ℕ) (o : Option Namespace) → length (locals_in (option_map (and_prefix text) o)) ≤ length (locals_in o) + 1
same_locals text None = omega arith
same_locals text (Some n) = omega arith

pub longer_local : (most : ℕ) (p : Partitions) (uri : ℕ) (text : List ℕ) → NoneLonger most p → NoneLonger (most + 1) (with_local p uri text)
longer_local most p uri text few =
    let f : Namespace → Namespace = and_local text in
    record {
      few_uris = rw (uris_changed f p.namespaces uri (λ n. refl)) (omega (arith, few.few_uris));
      few_locals = changed_longer locals_in f most (longer_locals text) p.namespaces uri few.few_locals;
      few_prefixes = changed_longer prefixes_in f most (same_prefixes text) p.namespaces uri few.few_prefixes;
      few_values = omega (arith, few.few_values);
      few_own = λ name. omega (arith, few.few_own name);
    }

pub longer_prefix : (most : ℕ) (p : Partitions) (uri : ℕ) (text : List ℕ) → NoneLonger most p → NoneLonger (most + 1) (with_prefix p uri text)
longer_prefix most p uri text few =
    let f : Namespace → Namespace = and_prefix text in
    record {
      few_uris = rw (uris_changed f p.namespaces uri (λ n. refl)) (omega (arith, few.few_uris));
      few_locals = changed_longer locals_in f most (same_locals text) p.namespaces uri few.few_locals;
      few_prefixes = changed_longer prefixes_in f most (longer_prefixes text) p.namespaces uri few.few_prefixes;
      few_values = omega (arith, few.few_values);
      few_own = λ name. omega (arith, few.few_own name);
    }
