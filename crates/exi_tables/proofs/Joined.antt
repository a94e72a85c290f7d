-- First tables and what was added to them, seen as one.
use Rattle.std.proofs.Common.{◌≡◌, ◌≢◌, ℕ, zero, suc, ◌<◌, ◌≤◌, ◌+◌, ◌-◌, ◌^◌, List, [], ◌∷◌, ◌++◌, length, map, get_or, refl, sym, ap, ◌∙◌, arith, inl, inr, Some, None, Ok, Err, Result, true, is_some, length-append}
use Rattle.std.specs.Prelude.{slice_get, unwrap_or, option_and_then, IfSome, OnErr, take}
use Rattle.std.proofs.lemmas.Bool.{cases_eq}
use Rattle.std.proofs.lemmas.List.{append-nil, append_assoc, length-take}
use Rattle.std.proofs.lemmas.Option.{slice_get-get_or}
use Rattle.exi_names.specs.StartTables.{Names, IsStart, first_uris}
use Rattle.exi_tables.specs.Added.{Added, IsAdded, IsJoined, IsPlaced, IsPushed, IsPushedAt, added_at, added_least, all_locals, all_prefixes, count_of, first_locals, idle, joined, list_at, namespaces_of, number_of}
use Rattle.exi_tables.specs.Partitions.{Namespace, and_local, and_prefix, first_prefixes, least_place, live_at, locals_in, namespaces_from, prefixes_in}
use Rattle.exi_tables.specs.Values.{changed_at}
use Rattle.exi_tables.proofs.Placed.{added_pushed, at_none, at_some, count_none, count_some, least_first, least_some, least_there, number_none, number_some, placed_empty}

abbrev Lists : Type 0
Lists = ℕ → List (List ℕ)

-- ---- namespaces of lists of local names and prefixes
pub uris_are : (f h : Lists) (k : ℕ) (us : List (List ℕ)) → map (λ (n : Namespace). n.uri) (namespaces_of f h k us) ≡ us
uris_are f h k [] = refl
uris_are f h k (u ∷ us) = ap (λ xs. u ∷ xs) (uris_are f h (k + 1) us)

pub locals_there : (f h : Lists) (k : ℕ) (us : List (List ℕ)) (i : ℕ) → i < length us → locals_in (slice_get (namespaces_of f h k us) i) ≡ f (k + i)
locals_there f h k [] i within = absurd (omega (arith, within))
locals_there f h k (u ∷ us) zero within = let same : k + 0 ≡ k = omega arith in rw same refl
locals_there f h k (u ∷ us) (suc i) within =
    let same : k + 1 + i ≡ k + suc i = omega arith in
    locals_there f h (k + 1) us i (omega (arith, within)) ∙ ap f same

pub prefixes_there : (f h : Lists) (k : ℕ) (us : List (List ℕ)) (i : ℕ) → i < length us → prefixes_in (slice_get (namespaces_of f h k us) i) ≡ h (k + i)
prefixes_there f h k [] i within = absurd (omega (arith, within))
prefixes_there f h k (u ∷ us) zero within = let same : k + 0 ≡ k = omega arith in rw same refl
prefixes_there f h k (u ∷ us) (suc i) within =
    let same : k + 1 + i ≡ k + suc i = omega arith in
    prefixes_there f h (k + 1) us i (omega (arith, within)) ∙ ap h same

abbrev one : Lists → Lists → ℕ → List ℕ → Namespace
one f h k u = record { uri = u; locals = f k; prefixes = h k }

pub same_namespaces : (f h f2 h2 : Lists) (k : ℕ) (us : List (List ℕ)) → ((i : ℕ) → f i ≡ f2 i) → ((i : ℕ) → h i ≡ h2 i) → namespaces_of f h k us ≡ namespaces_of f2 h2 k us
same_namespaces f h f2 h2 k [] ls ps = refl
same_namespaces f h f2 h2 k (u ∷ us) ls ps =
    let head : one f h k u ≡ one f2 h2 k u = ap (λ (l : List (List ℕ)). record { uri = u; locals = l; prefixes = h k }) (ls k) ∙ ap (λ (p : List (List ℕ)). record { uri = u; locals = f2 k; prefixes = p }) (ps k) in
    ap (λ n. n ∷ namespaces_of f h (k + 1) us) head ∙ ap (λ ns. one f2 h2 k u ∷ ns) (same_namespaces f h f2 h2 (k + 1) us ls ps)

pub one_more : (f h : Lists) (k : ℕ) (us : List (List ℕ)) (u : List ℕ) → namespaces_of f h k (us ++ u ∷ []) ≡ namespaces_of f h k us ++ one f h (k + length us) u ∷ []
one_more f h k [] u = let same : k + 0 ≡ k = omega arith in rw same refl
one_more f h k (v ∷ us) u =
    let same : k + 1 + length us ≡ k + length (v ∷ us) = omega arith in
    ap (λ ns. one f h k v ∷ ns) (one_more f h (k + 1) us u ∙ ap (λ (i : ℕ). namespaces_of f h (k + 1) us ++ one f h i u ∷ []) same)

-- the lists of the URI at a place changed
pub changed_there : (c : Namespace → Namespace) (f h f2 h2 : Lists) (k : ℕ) (us : List (List ℕ)) (i : ℕ) →
    ((u : List ℕ) → one f2 h2 (k + i) u ≡ c (one f h (k + i) u)) → ((j : ℕ) → j ≢ k + i → f2 j ≡ f j) → ((j : ℕ) → j ≢ k + i → h2 j ≡ h j) →
    namespaces_of f2 h2 k us ≡ changed_at (namespaces_of f h k us) i c
changed_there c f h f2 h2 k [] i here ls ps = refl
changed_there c f h f2 h2 k (u ∷ us) zero here ls ps =
    let same : k + 0 ≡ k = omega arith in
    let head : one f2 h2 k u ≡ c (one f h k u) = rw same at (here u) in
    ap (λ n. n ∷ namespaces_of f2 h2 (k + 1) us) head
    ∙ ap (λ ns. c (one f h k u) ∷ ns) (past (k + 1) us (omega arith))
  where
    past : (m : ℕ) (vs : List (List ℕ)) → k < m → namespaces_of f2 h2 m vs ≡ namespaces_of f h m vs
    past m [] above = refl
    past m (v ∷ vs) above =
        let l : f2 m ≡ f m = ls m (λ e. absurd (omega (arith, e, above))) in
        let p : h2 m ≡ h m = ps m (λ e. absurd (omega (arith, e, above))) in
        let head : one f2 h2 m v ≡ one f h m v = ap (λ (x : List (List ℕ)). record { uri = v; locals = x; prefixes = h2 m }) l ∙ ap (λ (x : List (List ℕ)). record { uri = v; locals = f m; prefixes = x }) p in
        ap (λ n. n ∷ namespaces_of f2 h2 (m + 1) vs) head ∙ ap (λ ns. one f h m v ∷ ns) (past (m + 1) vs (omega (arith, above)))
changed_there c f h f2 h2 k (u ∷ us) (suc i) here ls ps =
    let same : k + 1 + i ≡ k + suc i = omega arith in
    let l : f2 k ≡ f k = ls k (λ e. absurd (omega (arith, e))) in
    let p : h2 k ≡ h k = ps k (λ e. absurd (omega (arith, e))) in
    let head : one f2 h2 k u ≡ one f h k u = ap (λ (x : List (List ℕ)). record { uri = u; locals = x; prefixes = h2 k }) l ∙ ap (λ (x : List (List ℕ)). record { uri = u; locals = f k; prefixes = x }) p in
    ap (λ n. n ∷ namespaces_of f2 h2 (k + 1) us) head
    ∙ ap (λ ns. one f h k u ∷ ns) (changed_there c f h f2 h2 (k + 1) us i (rw (← same) at here) (rw (← same) at ls) (rw (← same) at ps))

-- ---- the start
first_are : (f h : Lists) (k : ℕ) (us : List (List ℕ)) (ls : List (List (List ℕ))) → length ls ≡ length us → ((i : ℕ) → i < length us → f (k + i) ≡ get_or ls i []) →
    ((i : ℕ) → h i ≡ first_prefixes i) → namespaces_of f h k us ≡ namespaces_from k us ls
first_are f h k [] ls long l p = refl
first_are f h k (u ∷ us) [] long l p = absurd (omega (arith, long))
first_are f h k (u ∷ us) (names ∷ more) long l p =
    let same : k + 0 ≡ k = omega arith in
    let here : f k ≡ names = rw same at (l 0 (omega arith)) in
    let head : one f h k u ≡ record { uri = u; locals = names; prefixes = first_prefixes k } = ap (λ (x : List (List ℕ)). record { uri = u; locals = x; prefixes = h k }) here ∙ ap (λ (x : List (List ℕ)). record { uri = u; locals = names; prefixes = x }) (p k) in
    ap (λ n. n ∷ namespaces_of f h (k + 1) us) head
    ∙ ap (λ ns. record { uri = u; locals = names; prefixes = first_prefixes k } ∷ ns)
    (first_are f h (k + 1) us more (omega (arith, long)) (λ i within. let next : k + suc i ≡ k + 1 + i = omega arith in ap f (sym next) ∙ l (suc i) (omega (arith, within))) p)

-- a list of which nothing was added
idle_texts : (lists : List Added) (uri : ℕ) → list_at lists uri ≡ idle → (list_at lists uri).texts ≡ []
idle_texts lists uri e = ap (λ (a : Added). a.texts) e

pub no_more : (first : List (List ℕ)) (lists : List Added) (uri : ℕ) → list_at lists uri ≡ idle → first ++ (list_at lists uri).texts ≡ first
no_more first lists uri e = ap (λ ts. first ++ ts) (idle_texts lists uri e) ∙ append-nil first

pub idle_added : (first : List (List ℕ)) (a : Added) → a ≡ idle → length first < 2 ^ 32 → IsAdded first a
idle_added first a e few = rw e (record {
  start = inr (refl, refl);
  placed = placed_empty first few;
})

module _ (first : Names) (uris : Added) (locals prefixes : List Added) (start : IsStart first)
    (uris_is : uris ≡ record { start = length first.uris; texts = []; known = [] })
    (no_locals : (uri : ℕ) → list_at locals uri ≡ idle) (no_prefixes : (uri : ℕ) → list_at prefixes uri ≡ idle) where
  pub joined_first : joined first uris locals prefixes ≡ namespaces_from 0 first.uris first.locals
  joined_first =
      rw (uris_is, append-nil)
      (first_are (all_locals first locals) (all_prefixes prefixes) 0 first.uris first.locals start.paired (λ i within. let same : 0 + i ≡ i = omega arith in rw same (no_more (first_locals first i) locals i (no_locals i)))
      (λ i. no_more (first_prefixes i) prefixes i (no_prefixes i)))

  pub starts_joined : IsJoined first uris locals prefixes
  starts_joined =
      record {
        start = start;
        uris_start = ap (λ (a : Added). a.start) uris_is;
        each_uri = rw uris_is (placed_empty first.uris (omega (arith, start.few_uris)));
        each_local = λ uri. idle_added (first_locals first uri) (list_at locals uri) (no_locals uri) (few_locals uri);
        each_prefix = λ uri. idle_added (first_prefixes uri) (list_at prefixes uri) (no_prefixes uri) (few_prefixes uri);
        no_local = λ uri past. idle_texts locals uri (no_locals uri);
        no_prefix = λ uri past. idle_texts prefixes uri (no_prefixes uri);
      }
    where
      few_in : (ls : List (List (List ℕ))) (most i : ℕ) → ((place : ℕ) → IfSome (slice_get ls place) (λ list. length list ≤ most)) → length (get_or ls i []) ≤ most
      few_in [] most i few = omega arith
      few_in (l ∷ ls) most zero few = few 0
      few_in (l ∷ ls) most (suc i) few = few_in ls most i (λ place. few (suc place))

      few_locals : (uri : ℕ) → length (first_locals first uri) < 2 ^ 32
      few_locals uri = omega (arith, few_in first.locals (2 ^ 30) uri start.few_locals)

      few_prefixes : (uri : ℕ) → length (first_prefixes uri) < 2 ^ 32
      few_prefixes zero = omega arith
      few_prefixes (suc zero) = omega arith
      few_prefixes (suc (suc zero)) = omega arith
      few_prefixes (suc (suc (suc uri))) = omega arith

-- ---- a list of a URI grows
module _ (base : Lists) (lists more : List Added) (uri : ℕ) (text : List ℕ) (n : ℕ)
    (pushed : IsPushedAt uri (length (base uri)) text n lists more) where
  pub more_here : base uri ++ (list_at more uri).texts ≡ (base uri ++ (list_at lists uri).texts) ++ text ∷ []
  more_here = ap (λ ts. base uri ++ ts) pushed.here.texts_are ∙ sym (append_assoc (base uri) (list_at lists uri).texts (text ∷ []))

  pub more_others : (other : ℕ) → other ≢ uri → base other ++ (list_at more other).texts ≡ base other ++ (list_at lists other).texts
  more_others other apart = ap (λ (a : Added). base other ++ a.texts) (pushed.others other apart)

  pub more_added : ((k : ℕ) → IsAdded (base k) (list_at lists k)) → n ≡ unwrap_or (least_place (base uri) text) (length (base uri ++ (list_at lists uri).texts)) →
      length (base uri ++ (list_at lists uri).texts) < 2 ^ 32 - 1 → (k : ℕ) → IsAdded (base k) (list_at more k)
  more_added each n_is room k = elim (cases_eq k uri) [
    | inl same ↦ rw same (added_pushed (base uri) (list_at lists uri) (each uri) text n (list_at more uri) pushed.here n_is room)
    | inr apart ↦ rw (pushed.others k apart) (each k)
  ]

-- ---- no first texts beyond the first URIs
past_all : (ls : List (List (List ℕ))) (i : ℕ) → length ls ≤ i → get_or ls i [] ≡ []
past_all [] i past = refl
past_all (l ∷ ls) zero past = absurd (omega (arith, past))
past_all (l ∷ ls) (suc i) past = past_all ls i (omega (arith, past))

past_three : (uri : ℕ) → 3 ≤ uri → first_prefixes uri ≡ []
past_three zero past = absurd (omega (arith, past))
past_three (suc zero) past = absurd (omega (arith, past))
past_three (suc (suc zero)) past = absurd (omega (arith, past))
past_three (suc (suc (suc uri))) past = refl

three : (us : List (List ℕ)) → take 3 us ≡ first_uris → 3 ≤ length us
three us e = let long : length (take 3 us) ≡ 3 = ap length e in omega (arith, long, length-take 3 us)

-- ---- what is seen of the tables
module _ (first : Names) (uris : Added) (locals prefixes : List Added) (j : IsJoined first uris locals prefixes) where
  abbrev ns : List Namespace
  ns = joined first uris locals prefixes

  abbrev us : List (List ℕ)
  us = first.uris ++ uris.texts

  abbrev seen_uris : List (List ℕ)
  seen_uris = map (λ (n : Namespace). n.uri) ns

  pub all_uris : seen_uris ≡ us
  all_uris = uris_are (all_locals first locals) (all_prefixes prefixes) 0 us

  uris_added : IsAdded first.uris uris
  uris_added = record { start = inl j.uris_start; placed = j.each_uri }

  within_all : (uri : ℕ) → uri < length seen_uris → uri < length us
  within_all uri within = rw all_uris at within

  pub locals_are : (uri : ℕ) → uri < length seen_uris → locals_in (slice_get ns uri) ≡ all_locals first locals uri
  locals_are uri within = let same : 0 + uri ≡ uri = omega arith in rw same at (locals_there (all_locals first locals) (all_prefixes prefixes) 0 us uri (within_all uri within))

  pub prefixes_are : (uri : ℕ) → uri < length seen_uris → prefixes_in (slice_get ns uri) ≡ all_prefixes prefixes uri
  prefixes_are uri within = let same : 0 + uri ≡ uri = omega arith in rw same at (prefixes_there (all_locals first locals) (all_prefixes prefixes) 0 us uri (within_all uri within))

  -- by place
  pub uri_some : (place : ℕ) (text : List ℕ) → added_at uris place ≡ Some text → Some text ≡ live_at seen_uris place
  uri_some place text e = rw all_uris (at_some first.uris uris uris_added place text e)

  pub uri_none : (place : ℕ) → added_at uris place ≡ None → live_at first.uris place ≡ live_at seen_uris place
  uri_none place e = rw all_uris (sym (at_none first.uris uris uris_added place e))

  pub local_some : (uri place : ℕ) (text : List ℕ) → uri < length seen_uris → added_at (list_at locals uri) place ≡ Some text → Some text ≡ live_at (locals_in (slice_get ns uri)) place
  local_some uri place text within e = rw (locals_are uri within) (at_some (first_locals first uri) (list_at locals uri) (j.each_local uri) place text e)

  pub local_none : (uri place : ℕ) → uri < length seen_uris → added_at (list_at locals uri) place ≡ None → live_at (first_locals first uri) place ≡ live_at (locals_in (slice_get ns uri)) place
  local_none uri place within e = rw (locals_are uri within) (sym (at_none (first_locals first uri) (list_at locals uri) (j.each_local uri) place e))

  pub prefix_some : (uri place : ℕ) (text : List ℕ) → uri < length seen_uris → added_at (list_at prefixes uri) place ≡ Some text → Some text ≡ live_at (prefixes_in (slice_get ns uri)) place
  prefix_some uri place text within e = rw (prefixes_are uri within) (at_some (first_prefixes uri) (list_at prefixes uri) (j.each_prefix uri) place text e)

  pub prefix_none : (uri place : ℕ) → uri < length seen_uris → added_at (list_at prefixes uri) place ≡ None → live_at (first_prefixes uri) place ≡ live_at (prefixes_in (slice_get ns uri)) place
  prefix_none uri place within e = rw (prefixes_are uri within) (sym (at_none (first_prefixes uri) (list_at prefixes uri) (j.each_prefix uri) place e))

  -- by text
  pub uri_of_some : (t : List ℕ) (p : ℕ) → number_of uris.known t ≡ Some p → Some p ≡ least_place seen_uris t
  uri_of_some t p e = rw all_uris (number_some first.uris uris.texts uris.known j.each_uri t p e)

  pub uri_of_none : (t : List ℕ) → number_of uris.known t ≡ None → least_place first.uris t ≡ least_place seen_uris t
  uri_of_none t e = rw all_uris (sym (number_none first.uris uris.texts uris.known j.each_uri t e))

  pub local_of_some : (uri : ℕ) (t : List ℕ) (p : ℕ) → uri < length seen_uris → number_of (list_at locals uri).known t ≡ Some p → Some p ≡ least_place (locals_in (slice_get ns uri)) t
  local_of_some uri t p within e = rw (locals_are uri within) (number_some (first_locals first uri) (list_at locals uri).texts (list_at locals uri).known (j.each_local uri).placed t p e)

  pub local_of_none : (uri : ℕ) (t : List ℕ) → uri < length seen_uris → number_of (list_at locals uri).known t ≡ None → least_place (first_locals first uri) t ≡ least_place (locals_in (slice_get ns uri)) t
  local_of_none uri t within e = rw (locals_are uri within) (sym (number_none (first_locals first uri) (list_at locals uri).texts (list_at locals uri).known (j.each_local uri).placed t e))

  pub prefix_of_some : (uri : ℕ) (t : List ℕ) (p : ℕ) → uri < length seen_uris → number_of (list_at prefixes uri).known t ≡ Some p → Some p ≡ least_place (prefixes_in (slice_get ns uri)) t
  prefix_of_some uri t p within e = rw (prefixes_are uri within) (number_some (first_prefixes uri) (list_at prefixes uri).texts (list_at prefixes uri).known (j.each_prefix uri).placed t p e)

  pub prefix_of_none : (uri : ℕ) (t : List ℕ) → uri < length seen_uris → number_of (list_at prefixes uri).known t ≡ None → least_place (first_prefixes uri) t ≡ least_place (prefixes_in (slice_get ns uri)) t
  prefix_of_none uri t within e = rw (prefixes_are uri within) (sym (number_none (first_prefixes uri) (list_at prefixes uri).texts (list_at prefixes uri).known (j.each_prefix uri).placed t e))

  -- the least place
  pub least_uri_some : (place least : ℕ) → added_least uris place ≡ Some least → Some least ≡ option_and_then (least_place seen_uris) (live_at seen_uris place)
  least_uri_some place least e = rw all_uris (least_there first.uris uris uris_added place least e)

  pub least_uri_none : (place : ℕ) → added_least uris place ≡ None → option_and_then (least_place first.uris) (live_at first.uris place) ≡ option_and_then (least_place seen_uris) (live_at seen_uris place)
  least_uri_none place e = rw all_uris (sym (least_first first.uris uris uris_added place e))

  pub least_local_some : (uri place least : ℕ) → uri < length seen_uris → added_least (list_at locals uri) place ≡ Some least →
      Some least ≡ option_and_then (least_place (locals_in (slice_get ns uri))) (live_at (locals_in (slice_get ns uri)) place)
  least_local_some uri place least within e = rw (locals_are uri within) (least_there (first_locals first uri) (list_at locals uri) (j.each_local uri) place least e)

  pub least_local_none : (uri place : ℕ) → uri < length seen_uris → added_least (list_at locals uri) place ≡ None →
      option_and_then (least_place (first_locals first uri)) (live_at (first_locals first uri) place) ≡ option_and_then (least_place (locals_in (slice_get ns uri))) (live_at (locals_in (slice_get ns uri)) place)
  least_local_none uri place within e = rw (locals_are uri within) (sym (least_first (first_locals first uri) (list_at locals uri) (j.each_local uri) place e))

  -- how many
  pub uri_count : uris.start + length uris.texts ≡ length seen_uris
  uri_count = rw all_uris (omega (arith, j.uris_start, length-append first.uris uris.texts))

  pub local_count_some : (uri n : ℕ) → uri < length seen_uris → count_of (list_at locals uri) ≡ Some n → n ≡ length (locals_in (slice_get ns uri))
  local_count_some uri n within e = rw (locals_are uri within) (count_some (first_locals first uri) (list_at locals uri) (j.each_local uri) n e)

  pub local_count_none : (uri : ℕ) → uri < length seen_uris → count_of (list_at locals uri) ≡ None → length (first_locals first uri) ≡ length (locals_in (slice_get ns uri))
  local_count_none uri within e = rw (locals_are uri within) (count_none (first_locals first uri) (list_at locals uri) (j.each_local uri) e)

  pub prefix_count_some : (uri n : ℕ) → uri < length seen_uris → count_of (list_at prefixes uri) ≡ Some n → n ≡ length (prefixes_in (slice_get ns uri))
  prefix_count_some uri n within e = rw (prefixes_are uri within) (count_some (first_prefixes uri) (list_at prefixes uri) (j.each_prefix uri) n e)

  pub prefix_count_none : (uri : ℕ) → uri < length seen_uris → count_of (list_at prefixes uri) ≡ None → length (first_prefixes uri) ≡ length (prefixes_in (slice_get ns uri))
  prefix_count_none uri within e = rw (prefixes_are uri within) (count_none (first_prefixes uri) (list_at prefixes uri) (j.each_prefix uri) e)

  pub local_long : (uri : ℕ) → uri < length seen_uris → length (locals_in (slice_get ns uri)) ≡ length (first_locals first uri) + length (list_at locals uri).texts
  local_long uri within = ap length (locals_are uri within) ∙ length-append (first_locals first uri) (list_at locals uri).texts

  pub prefix_long : (uri : ℕ) → uri < length seen_uris → length (prefixes_in (slice_get ns uri)) ≡ length (first_prefixes uri) + length (list_at prefixes uri).texts
  prefix_long uri within = ap length (prefixes_are uri within) ∙ length-append (first_prefixes uri) (list_at prefixes uri).texts

  -- one URI more
  module _ (text : List ℕ) (n : ℕ) (new : Added) (pushed : IsPushed (length first.uris) text n uris new) where
    more_us : first.uris ++ new.texts ≡ us ++ text ∷ []
    more_us = ap (λ ts. first.uris ++ ts) pushed.texts_are ∙ sym (append_assoc first.uris uris.texts (text ∷ []))

    pub uri_pushed : n ≡ unwrap_or (least_place first.uris text) (length seen_uris) → length seen_uris < 2 ^ 32 - 1 → IsJoined first new locals prefixes
    uri_pushed n_is room =
        let added : IsAdded first.uris new = added_pushed first.uris uris uris_added text n new pushed (n_is ∙ ap (λ (ts : List (List ℕ)). unwrap_or (least_place first.uris text) (length ts)) all_uris) (rw all_uris at room) in
        let long : length (first.uris ++ new.texts) ≡ length us + 1 = ap length more_us ∙ length-append us (text ∷ []) in
        record {
          start = j.start;
          uris_start = pushed.start_is;
          each_uri = added.placed;
          each_local = j.each_local;
          each_prefix = j.each_prefix;
          no_local = λ uri past. j.no_local uri (omega (arith, past, long));
          no_prefix = λ uri past. j.no_prefix uri (omega (arith, past, long));
        }

    pub uri_more : joined first new locals prefixes ≡ ns ++ record { uri = text; locals = []; prefixes = [] } ∷ []
    uri_more =
        let f = all_locals first locals in
        let h = all_prefixes prefixes in
        let long : length us ≡ length first.uris + length uris.texts = length-append first.uris uris.texts in
        let same : 0 + length us ≡ length us = omega arith in
        let l : f (0 + length us) ≡ [] = ap f same ∙ ap (λ ts. first_locals first (length us) ++ ts) (j.no_local (length us) (omega arith)) ∙ append-nil (first_locals first (length us)) ∙ past_all first.locals (length us) (omega (arith, long, j.start.paired)) in
        let p : h (0 + length us) ≡ [] = ap h same ∙ ap (λ ts. first_prefixes (length us) ++ ts) (j.no_prefix (length us) (omega arith)) ∙ append-nil (first_prefixes (length us)) ∙ past_three (length us) (omega (arith, long, three first.uris j.start.first)) in
        ap (namespaces_of f h 0) more_us ∙ one_more f h 0 us text
        ∙ ap (λ (x : List (List ℕ)). ns ++ record { uri = text; locals = x; prefixes = h (0 + length us) } ∷ []) l
        ∙ ap (λ (x : List (List ℕ)). ns ++ record { uri = text; locals = []; prefixes = x } ∷ []) p

  -- one local name more
  module _ (uri : ℕ) (text : List ℕ) (n : ℕ) (new : List Added) (within : uri < length seen_uris) (pushed : IsPushedAt uri (length (first_locals first uri)) text n locals new) where
    local_apart : (k : ℕ) → length us ≤ k → k ≢ uri
    local_apart k past e = absurd (omega (arith, past, e, within_all uri within))

    pub local_pushed : n ≡ unwrap_or (least_place (first_locals first uri) text) (length (locals_in (slice_get ns uri))) → length (locals_in (slice_get ns uri)) < 2 ^ 32 - 1 →
        IsJoined first uris new prefixes
    local_pushed n_is room = record {
      start = j.start;
      uris_start = j.uris_start;
      each_uri = j.each_uri;
      each_local = more_added (first_locals first) locals new uri text n pushed j.each_local (rw (locals_are uri within) at n_is) (rw (locals_are uri within) at room);
      each_prefix = j.each_prefix;
      no_local = λ k past. ap (λ (a : Added). a.texts) (pushed.others k (local_apart k past)) ∙ j.no_local k past;
      no_prefix = j.no_prefix;
    }

    pub local_more : joined first uris new prefixes ≡ changed_at ns uri (and_local text)
    local_more =
        let here : all_locals first new uri ≡ all_locals first locals uri ++ text ∷ [] = more_here (first_locals first) locals new uri text n pushed in
        let same : 0 + uri ≡ uri = omega arith in
        changed_there (and_local text) (all_locals first locals) (all_prefixes prefixes) (all_locals first new) (all_prefixes prefixes) 0 us uri
        (λ u. rw same (ap (λ (x : List (List ℕ)). record { uri = u; locals = x; prefixes = all_prefixes prefixes uri }) here))
        (λ k apart. more_others (first_locals first) locals new uri text n pushed k (rw same at apart)) (λ k apart. refl)

  -- one prefix more
  module _ (uri : ℕ) (text : List ℕ) (n : ℕ) (new : List Added) (within : uri < length seen_uris) (pushed : IsPushedAt uri (length (first_prefixes uri)) text n prefixes new) where
    prefix_apart : (k : ℕ) → length us ≤ k → k ≢ uri
    prefix_apart k past e = absurd (omega (arith, past, e, within_all uri within))

    pub prefix_pushed : n ≡ unwrap_or (least_place (first_prefixes uri) text) (length (prefixes_in (slice_get ns uri))) → length (prefixes_in (slice_get ns uri)) < 2 ^ 32 - 1 →
        IsJoined first uris locals new
    prefix_pushed n_is room = record {
      start = j.start;
      uris_start = j.uris_start;
      each_uri = j.each_uri;
      each_local = j.each_local;
      each_prefix = more_added first_prefixes prefixes new uri text n pushed j.each_prefix (rw (prefixes_are uri within) at n_is) (rw (prefixes_are uri within) at room);
      no_local = j.no_local;
      no_prefix = λ k past. ap (λ (a : Added). a.texts) (pushed.others k (prefix_apart k past)) ∙ j.no_prefix k past;
    }

    pub prefix_more : joined first uris locals new ≡ changed_at ns uri (and_prefix text)
    prefix_more =
        let here : all_prefixes new uri ≡ all_prefixes prefixes uri ++ text ∷ [] = more_here first_prefixes prefixes new uri text n pushed in
        let same : 0 + uri ≡ uri = omega arith in
        changed_there (and_prefix text) (all_locals first locals) (all_prefixes prefixes) (all_locals first locals) (all_prefixes new) 0 us uri
        (λ u. rw same (ap (λ (x : List (List ℕ)). record { uri = u; locals = all_locals first locals uri; prefixes = x }) here))
        (λ k apart. refl) (λ k apart. more_others first_prefixes prefixes new uri text n pushed k (rw same at apart))

  -- nothing was added
  pub same_joined : (ls ps : List Added) → ((k : ℕ) → list_at ls k ≡ list_at locals k) → ((k : ℕ) → list_at ps k ≡ list_at prefixes k) → IsJoined first uris ls ps
  same_joined ls ps same_ls same_ps = record {
    start = j.start;
    uris_start = j.uris_start;
    each_uri = j.each_uri;
    each_local = λ k. rw (same_ls k) (j.each_local k);
    each_prefix = λ k. rw (same_ps k) (j.each_prefix k);
    no_local = λ k past. rw (same_ls k) (j.no_local k past);
    no_prefix = λ k past. rw (same_ps k) (j.no_prefix k past);
  }

  pub same_seen : (ls ps : List Added) → ((k : ℕ) → list_at ls k ≡ list_at locals k) → ((k : ℕ) → list_at ps k ≡ list_at prefixes k) → joined first uris ls ps ≡ ns
  same_seen ls ps same_ls same_ps =
      same_namespaces (all_locals first ls) (all_prefixes ps) (all_locals first locals) (all_prefixes prefixes) 0 us
      (λ k. ap (λ (a : Added). first_locals first k ++ a.texts) (same_ls k)) (λ k. ap (λ (a : Added). first_prefixes k ++ a.texts) (same_ps k))

-- a text that stands at a place has a least place
pub least_is_some : (texts : List (List ℕ)) (place : ℕ) → place < length texts → is_some (option_and_then (least_place texts) (live_at texts place)) ≡ true
least_is_some texts place within =
    let at : live_at texts place ≡ Some (get_or texts place []) = slice_get-get_or texts place [] within in
    rw at (least_some texts place (get_or texts place []) at)

-- where an error is answered, what holds in any case
pub on_err : {A E : Type 0} (r : Result A E) {P : Type 0} → P → OnErr r P
on_err (Ok x) p = tt
on_err (Err e) p = p
