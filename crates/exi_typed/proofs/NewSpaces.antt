-- URIs, local names and prefixes that were read, before and after they are added.
use Rattle.std.proofs.Common.{◌≡◌, ℕ, ◌-◌, ◌^◌, ◌<◌, ◌≤◌, List, [], ◌∷◌, ◌++◌, length, Option, Some, None, refl, sym, ap, ◌∙◌, subst, arith, inl, inr, ◌⊎◌}
use Rattle.std.specs.Prelude.{slice_get, option_map, option_and_then, unwrap_or}
use Rattle.std.proofs.lemmas.List.{length-map, map-append}
use Rattle.std.proofs.lemmas.Option.{get_or_from_slice_get, slice_get-get_or, slice_get_past, slice_get_within}
use Rattle.exi_tables.specs.Growth.{NoneLonger}
use Rattle.exi_tables.specs.Partitions.{Namespace, Partitions, and_local, and_prefix, least_place, live_at, locals, locals_in, prefixes, prefixes_in, uris, with_local, with_prefix, with_uri}
use Rattle.exi_tables.proofs.Growing.{changed_within, get_appended, get_changed, uris_changed}
use Rattle.exi_tables.proofs.Least.{get_last, least_found, least_of_last}
use Rattle.exi_typed.specs.Places.{IsDeclarationAt, IsDeclarationRead, IsNameAt, IsNameRead, declaration_in, declaration_of, name_in, name_of, space_text, spelled_text, text_in, with_missed_uri, with_declaration, with_name, with_space, with_spelled_local, with_spelled_prefix}
use Rattle.exi_typed.specs.declared.declarations.DeclarationRead.{DeclarationRead}
use Rattle.exi_typed.specs.declared.names.NameAt.{NameAt}
use Rattle.exi_typed.specs.declared.parts.NameRead.{NameRead}
use Rattle.exi_typed.specs.declared.spaces.Spelled.{Spelled}
use Rattle.exi_typed.specs.declared.spaces.Spelled.TheVariants as spelled
use Rattle.exi_typed.specs.Strings.{place_in}

-- ---- a new URI has no names and no prefixes, and the others keep theirs
abbrev fresh : List ℕ → Namespace
fresh text = record { uri = text; locals = []; prefixes = [] }

pub locals_in_context : (p : Partitions) (text : List ℕ) (uri : ℕ) → locals (with_uri p text) uri ≡ locals p uri
locals_in_context p text uri = by_place (get_appended p.namespaces (fresh text) uri)
  where
    by_place : (slice_get (p.namespaces ++ fresh text ∷ []) uri ≡ slice_get p.namespaces uri) ⊎ ((slice_get p.namespaces uri ≡ None) × (slice_get (p.namespaces ++ fresh text ∷ []) uri ≡ Some (fresh text))) → locals (with_uri p text) uri ≡ locals p uri
    by_place (inl e) = ap locals_in e
    by_place (inr e) = ap locals_in e.1 ∙ sym (ap locals_in e.0)

pub prefixes_in_context : (p : Partitions) (text : List ℕ) (uri : ℕ) → prefixes (with_uri p text) uri ≡ prefixes p uri
prefixes_in_context p text uri = by_place (get_appended p.namespaces (fresh text) uri)
  where
    by_place : (slice_get (p.namespaces ++ fresh text ∷ []) uri ≡ slice_get p.namespaces uri) ⊎ ((slice_get p.namespaces uri ≡ None) × (slice_get (p.namespaces ++ fresh text ∷ []) uri ≡ Some (fresh text))) → prefixes (with_uri p text) uri ≡ prefixes p uri
    by_place (inl e) = ap prefixes_in e
    by_place (inr e) = ap prefixes_in e.1 ∙ sym (ap prefixes_in e.0)

pub locals_kept : (p : Partitions) (missed : Option (List ℕ)) (uri : ℕ) → locals (with_missed_uri p missed) uri ≡ locals p uri
locals_kept p None uri = refl
locals_kept p (Some text) uri = locals_in_context p text uri

pub prefixes_kept : (p : Partitions) (missed : Option (List ℕ)) (uri : ℕ) → prefixes (with_missed_uri p missed) uri ≡ prefixes p uri
prefixes_kept p None uri = refl
prefixes_kept p (Some text) uri = prefixes_in_context p text uri

pub uris_with : (p : Partitions) (text : List ℕ) → uris (with_uri p text) ≡ uris p ++ text ∷ []
uris_with p text = map-append (λ n. n.uri) p.namespaces (fresh text ∷ [])

pub past_uris : (p : Partitions) (uri : ℕ) → length (uris p) ≤ uri → (locals p uri ≡ []) × (prefixes p uri ≡ [])
past_uris p uri past =
    let h : length p.namespaces ≤ uri = subst (λ (n : ℕ). n ≤ uri) (length-map p.namespaces (λ (n : Namespace). n.uri)) past in
    let e = slice_get_past p.namespaces uri h in
    (ap locals_in e, ap prefixes_in e)

-- ---- a text that was spelled out is told by its least place
spelled_out : (xs : List (List ℕ)) (text : List ℕ) → place_in (xs ++ text ∷ []) text ≡ unwrap_or (least_place xs text) (length xs)
spelled_out xs text = ap (λ (o : Option ℕ). unwrap_or o 0) (least_of_last xs text)

-- and it stands there
in_list : (xs : List (List ℕ)) (text : List ℕ) (place : ℕ) → live_at xs place ≡ Some text → (text_in xs place ≡ text) × (place < length xs)
in_list xs text place found = (get_or_from_slice_get xs place text [] found, slice_get_within xs place text found)

found_in : (xs : List (List ℕ)) (text : List ℕ) → (live_at xs (place_in xs text) ≡ Some text) ⊎ (least_place xs text ≡ None)
found_in xs text = by_place (least_place xs text) refl
  where
    by_place : (o : Option ℕ) → least_place xs text ≡ o → (live_at xs (unwrap_or o 0) ≡ Some text) ⊎ (o ≡ None)
    by_place None e = inr refl
    by_place (Some place) e = inl (least_found xs text place e).found

-- the facts of a text at the end of a list
pub record Ended (xs ys : List (List ℕ)) (text : List ℕ) (place : ℕ) : Type 0 where
  pub least : place ≡ place_in ys text
  pub within : place < length ys
  pub text_is : text_in ys place ≡ text

ended : (xs : List (List ℕ)) (text : List ℕ) → Ended xs (xs ++ text ∷ []) text (unwrap_or (least_place xs text) (length xs))
ended xs text =
    let e = spelled_out xs text in
    let found : live_at (xs ++ text ∷ []) (unwrap_or (least_place xs text) (length xs)) ≡ Some text = either (found_in (xs ++ text ∷ []) text) in
    let in_it = in_list (xs ++ text ∷ []) text (unwrap_or (least_place xs text) (length xs)) found in
    record { least = sym e; within = in_it.1; text_is = in_it.0 }
  where
    either : (live_at (xs ++ text ∷ []) (place_in (xs ++ text ∷ []) text) ≡ Some text) ⊎ (least_place (xs ++ text ∷ []) text ≡ None) → live_at (xs ++ text ∷ []) (unwrap_or (least_place xs text) (length xs)) ≡ Some text
    either (inl found) = subst (λ (n : ℕ). live_at (xs ++ text ∷ []) n ≡ Some text) (spelled_out xs text) found
    either (inr none) = let e : Some (unwrap_or (least_place xs text) (length xs)) ≡ None = sym (least_of_last xs text) ∙ none in absurd cc

pub ends : (xs ys : List (List ℕ)) (text : List ℕ) (place : ℕ) → ys ≡ xs ++ text ∷ [] → place ≡ unwrap_or (least_place xs text) (length xs) → Ended xs ys text place
ends xs ys text place e f = rw (e, f) (ended xs text)

-- a URI that was spelled out
pub uri_ends : (p : Partitions) (text : List ℕ) (place : ℕ) → place ≡ unwrap_or (least_place (uris p) text) (length (uris p)) → Ended (uris p) (uris (with_uri p text)) text place
uri_ends p text place e = ends (uris p) (uris (with_uri p text)) text place (uris_with p text) e

-- a local name that was spelled out
pub locals_with : (p : Partitions) (uri : ℕ) (text : List ℕ) → uri < length (uris p) → locals (with_local p uri text) uri ≡ locals p uri ++ text ∷ []
locals_with p uri text within = changed_within locals_in (and_local text) p.namespaces uri (text ∷ []) (λ n. refl) within

pub local_ends : (p : Partitions) (uri : ℕ) (text : List ℕ) (place : ℕ) → uri < length (uris p) → place ≡ unwrap_or (least_place (locals p uri) text) (length (locals p uri)) → Ended (locals p uri) (locals (with_local p uri text) uri) text place
local_ends p uri text place within e = ends (locals p uri) (locals (with_local p uri text) uri) text place (locals_with p uri text within) e

-- a prefix that was spelled out
pub prefixes_with : (p : Partitions) (uri : ℕ) (text : List ℕ) → uri < length (uris p) → prefixes (with_prefix p uri text) uri ≡ prefixes p uri ++ text ∷ []
prefixes_with p uri text within = changed_within prefixes_in (and_prefix text) p.namespaces uri (text ∷ []) (λ n. refl) within

pub prefix_ends : (p : Partitions) (uri : ℕ) (text : List ℕ) → uri < length (uris p) → (text_in (prefixes (with_prefix p uri text) uri) (length (prefixes p uri)) ≡ text) × (length (prefixes p uri) < length (prefixes (with_prefix p uri text) uri))
prefix_ends p uri text within =
    let e = prefixes_with p uri text within in
    rw e (in_list (prefixes p uri ++ text ∷ []) text (length (prefixes p uri)) (get_last (prefixes p uri) text))

-- ---- a text that is told by a place goes on as its least place
pub record Told (xs : List (List ℕ)) (text : List ℕ) (place : ℕ) : Type 0 where
  pub least : place ≡ place_in xs text
  pub within : place < length xs
  pub text_is : text_in xs place ≡ text

pub told_at : (xs : List (List ℕ)) (text : List ℕ) (place least : ℕ) → live_at xs place ≡ Some text → Some least ≡ option_and_then (least_place xs) (live_at xs place) → Told xs text least
told_at xs text place least stands e =
    let f : Some least ≡ least_place xs text = e ∙ ap (λ (o : Option (List ℕ)). option_and_then (least_place xs) o) stands in
    let found = least_found xs text least (sym f) in
    let in_it = in_list xs text least found.found in
    record { least = ap (λ (o : Option ℕ). unwrap_or o 0) f; within = in_it.1; text_is = in_it.0 }

-- ---- a local name more changes no URI and no prefix
pub uris_local : (p : Partitions) (uri : ℕ) (text : List ℕ) → uris (with_local p uri text) ≡ uris p
uris_local p uri text = uris_changed (and_local text) p.namespaces uri (λ n. refl)

same_prefixes : (text : List ℕ) (o : Option Namespace) → prefixes_in (option_map (and_local text) o) ≡ prefixes_in o
same_prefixes text None = refl
same_prefixes text (Some n) = refl

pub prefixes_local : (p : Partitions) (uri : ℕ) (text : List ℕ) → prefixes (with_local p uri text) uri ≡ prefixes p uri
prefixes_local p uri text = ap prefixes_in (get_changed p.namespaces uri (and_local text)) ∙ same_prefixes text (slice_get p.namespaces uri)

pub prefixes_spelled : (p : Partitions) (uri : ℕ) (l : Spelled) → prefixes (with_spelled_local p uri l) uri ≡ prefixes p uri
prefixes_spelled p uri (spelled.Placed place) = refl
prefixes_spelled p uri (spelled.Missed text) = prefixes_local p uri text

pub told_in : (xs : List (List ℕ)) (place least : ℕ) → place < length xs → Some least ≡ option_and_then (least_place xs) (live_at xs place) → Told xs (text_in xs place) least
told_in xs place least within e = told_at xs (text_in xs place) place least (slice_get-get_or xs place [] within) e

pub uris_spelled : (p : Partitions) (uri : ℕ) (l : Spelled) → uris (with_spelled_local p uri l) ≡ uris p
uris_spelled p uri (spelled.Placed place) = refl
uris_spelled p uri (spelled.Missed text) = uris_local p uri text

-- ---- a name that was read and is added stands at its places
abbrev name_places : NameRead → ℕ → NameAt
name_places r local = record { id = record { uri = r.space.place; local = local }; prefix = r.prefix }

pub name_lands : (p : Partitions) (r : NameRead) (local : ℕ) → IsNameRead p r
    → local ≡ place_in (locals (with_name p r) r.space.place) (spelled_text (locals (with_space p r.space) r.space.place) r.local)
    → text_in (locals (with_name p r) r.space.place) local ≡ spelled_text (locals (with_space p r.space) r.space.place) r.local
    → name_in (with_name p r) (name_places r local) ≡ name_of p r
name_lands p r local read least text =
    let u : text_in (uris (with_name p r)) r.space.place ≡ space_text p r.space = ap (λ (xs : List (List ℕ)). text_in xs r.space.place) (uris_spelled (with_space p r.space) r.space.place r.local) ∙ read.space.text_is in
    rw (u, text, sym least) refl

pub name_stands : (p : Partitions) (r : NameRead) (local : ℕ) → IsNameRead p r → local < length (locals (with_name p r) r.space.place) → IsNameAt (with_name p r) (name_places r local)
name_stands p r local read within = record {
  name = record { within_uris = rw (uris_spelled (with_space p r.space) r.space.place r.local) read.space.within; within_locals = within };
  prefix = read.prefix;
}

pub landed : (p q new : Partitions) (r : NameRead) (uri local : ℕ) → IsNameRead p r → q ≡ with_space p r.space → uri ≡ r.space.place → new ≡ with_spelled_local q uri r.local
    → local ≡ place_in (locals new uri) (spelled_text (locals q uri) r.local) → local < length (locals new uri) → text_in (locals new uri) local ≡ spelled_text (locals q uri) r.local
    → (name_in new (record { id = record { uri = uri; local = local }; prefix = r.prefix }) ≡ name_of p r) × IsNameAt new (record { id = record { uri = uri; local = local }; prefix = r.prefix })
landed p q new r uri local read e f h least within text =
    rw (h, e, f) (name_lands p r local read (rw (h, e, f) at least) (rw (h, e, f) at text), name_stands p r local read (rw (h, e, f) at within))

-- ---- a declaration that was read and is added stands at its places
pub uris_prefix : (p : Partitions) (uri : ℕ) (text : List ℕ) → uris (with_prefix p uri text) ≡ uris p
uris_prefix p uri text = uris_changed (and_prefix text) p.namespaces uri (λ n. refl)

pub uris_spelled_prefix : (p : Partitions) (uri : ℕ) (l : Spelled) → uris (with_spelled_prefix p uri l) ≡ uris p
uris_spelled_prefix p uri (spelled.Placed place) = refl
uris_spelled_prefix p uri (spelled.Missed text) = uris_prefix p uri text

declaration_lands : (p : Partitions) (r : DeclarationRead) (prefix : ℕ) → IsDeclarationRead p r
    → text_in (prefixes (with_declaration p r) r.space.place) prefix ≡ spelled_text (prefixes (with_space p r.space) r.space.place) r.prefix
    → declaration_in (with_declaration p r) (record { uri = r.space.place; prefix = prefix; element = r.element }) ≡ declaration_of p r
declaration_lands p r prefix read text =
    let u : text_in (uris (with_declaration p r)) r.space.place ≡ space_text p r.space = ap (λ (xs : List (List ℕ)). text_in xs r.space.place) (uris_spelled_prefix (with_space p r.space) r.space.place r.prefix) ∙ read.space.text_is in
    rw (u, text) refl

declaration_stands : (p : Partitions) (r : DeclarationRead) (prefix : ℕ) → IsDeclarationRead p r → prefix < length (prefixes (with_declaration p r) r.space.place)
    → IsDeclarationAt (with_declaration p r) (record { uri = r.space.place; prefix = prefix; element = r.element })
declaration_stands p r prefix read within = record { uri = rw (uris_spelled_prefix (with_space p r.space) r.space.place r.prefix) read.space.within; prefix = within }

pub declaration_landed : (p q new : Partitions) (r : DeclarationRead) (uri prefix : ℕ) → IsDeclarationRead p r → q ≡ with_space p r.space → uri ≡ r.space.place → new ≡ with_spelled_prefix q uri r.prefix
    → prefix < length (prefixes new uri) → text_in (prefixes new uri) prefix ≡ spelled_text (prefixes q uri) r.prefix
    → (declaration_in new (record { uri = uri; prefix = prefix; element = r.element }) ≡ declaration_of p r) × IsDeclarationAt new (record { uri = uri; prefix = prefix; element = r.element })
declaration_landed p q new r uri prefix read e f h within text =
    rw (h, e, f) (declaration_lands p r prefix read (rw (h, e, f) at text), declaration_stands p r prefix read (rw (h, e, f) at within))

-- there is room for one prefix more
pub room_for_prefix : (p q : Partitions) (missed : Option (List ℕ)) (uri : ℕ) → NoneLonger (2 ^ 31) p → q ≡ with_missed_uri p missed → length (prefixes q uri) < 2 ^ 32 - 1
room_for_prefix p q missed uri few e = rw (e, prefixes_kept p missed uri) (let f = few.few_prefixes uri in omega arith)

pub room_for_local : (p q : Partitions) (missed : Option (List ℕ)) (uri : ℕ) → NoneLonger (2 ^ 31) p → q ≡ with_missed_uri p missed → length (locals q uri) < 2 ^ 32 - 1
room_for_local p q missed uri few e = rw (e, locals_kept p missed uri) (let f = few.few_locals uri in omega arith)
