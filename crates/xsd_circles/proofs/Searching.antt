-- A search comes to all that paths lead to, and to nothing else.
use Rattle.std.proofs.Common.{◌≡◌, ℕ, zero, suc, ◌+◌, ◌<◌, ◌≤◌, Bool, true, false, cond, Option, Some, None, inl, inr, List, [], ◌∷◌, ◌++◌, get_or, length, replicate, set, refl, sym, ap, ◌∙◌, arith}
use Rattle.std.specs.Prelude.{◌==◌}
use Rattle.std.proofs.lemmas.Bool.{and_from, and_parts, cases_Bool, cases_eq, cases_lt, ne_eqb, true≢false, false≢true}
use Rattle.std.proofs.lemmas.List.{get_or_append_left, get_or_default, get_or_past, get_or_push, get_or-replicate, get_or-set_other, get_or-set_same, length-replicate, length-set, length_push}
use Rattle.xsd_tree.specs.declared.node.Node.{Node}
use Rattle.xsd_steps.specs.Steps.{steps}
use Rattle.xsd_circles.specs.Circles.{reaches, reaches_itself}
use Rattle.xsd_circles.specs.Searches.{Found, IsSearched, are_met, come_on, come_to, is_met}
use Rattle.xsd_circles.proofs.Reaching.{are_reached, comes_to, first_reached, next_reached, none_leads, or_none, reaches_more, reaches_past, reaches_up, so_more}

-- ---- how many are met
abbrev pub count_met : List Bool → ℕ
count_met [] = 0
count_met (true ∷ bs) = suc (count_met bs)
count_met (false ∷ bs) = count_met bs

pub count_none : (n : ℕ) → count_met (replicate n false) ≡ 0
count_none zero = refl
count_none (suc n) = count_none n

pub count_within : (bs : List Bool) → count_met bs ≤ length bs
count_within [] = omega arith
count_within (true ∷ bs) = let h = count_within bs in omega (arith, h)
count_within (false ∷ bs) = let h = count_within bs in omega (arith, h)

pub count_more : (bs : List Bool) (i : ℕ) → get_or bs i true ≡ false → count_met (set bs i true) ≡ count_met bs + 1
count_more [] i e = absurd (true≢false e)
count_more (true ∷ bs) zero e = absurd (true≢false e)
count_more (false ∷ bs) zero e = omega arith
count_more (true ∷ bs) (suc i) e = let h : count_met (set bs i true) ≡ count_met bs + 1 = count_more bs i e in omega (arith, h)
count_more (false ∷ bs) (suc i) e = count_more bs i e

-- ---- the state of a search
pub record IsSearch (ns : List Node) (i : ℕ) (f : Found) : Type 0 where
  pub count : length f.met ≡ length ns
  pub size : count_met f.met ≡ length f.queue
  pub reached : (j : ℕ) → get_or f.met j false ≡ true → reaches (length f.queue) ns j i ≡ true
  pub queued : (j : ℕ) → get_or f.met j false ≡ true → (q : ℕ) × (q < length f.queue) × (get_or f.queue q 0 ≡ j)
  pub met : (q : ℕ) → q < length f.queue → get_or f.met (get_or f.queue q 0) false ≡ true

pub record Grows (f g : Found) : Type 0 where
  pub more : (j : ℕ) → is_met f.met j ≡ true → is_met g.met j ≡ true
  pub kept : (q : ℕ) → q < length f.queue → get_or g.queue q 0 ≡ get_or f.queue q 0
  pub size : length f.queue ≤ length g.queue

grows_none : (f : Found) → Grows f f
grows_none f = record { more = λ j e. e; kept = λ q less. refl; size = omega arith }

grows_then : (f g h : Found) → Grows f g → Grows g h → Grows f h
grows_then f g h a b = record {
  more = λ j e. b.more j (a.more j e);
  kept = λ q less. let l : length f.queue ≤ length g.queue = a.size in b.kept q (omega (arith, less, l)) ∙ a.kept q less;
  size = let l : length f.queue ≤ length g.queue = a.size in let m : length g.queue ≤ length h.queue = b.size in omega (arith, l, m);
}

pub none_false : (n j : ℕ) → get_or (replicate n false) j false ≡ false
none_false n j = elim (cases_lt j n) [
  | inl less ↦ get_or-replicate n j false false less
  | inr le ↦ get_or_past (replicate n false) j false (let e : length (replicate n false) ≡ n = length-replicate n false in omega (arith, le, e))
]

pub search_begins : (ns : List Node) (i n : ℕ) → n ≡ length ns → IsSearch ns i (record { met = replicate n false; queue = [] })
search_begins ns i n e = record {
  count = length-replicate n false ∙ e;
  size = count_none n;
  reached = λ j h. absurd (false≢true (sym (none_false n j) ∙ h));
  queued = λ j h. absurd (false≢true (sym (none_false n j) ∙ h));
  met = λ q less. absurd (omega (arith, less));
}

-- ---- one place more
inside : (met : List Bool) (k : ℕ) → is_met met k ≡ false → k < length met
inside met k e = elim (cases_lt k (length met)) [
  | inl less ↦ less
  | inr le ↦ absurd (true≢false (sym (get_or_past met k true le) ∙ e))
]

set_kept : (met : List Bool) (k j : ℕ) (d : Bool) → k < length met → get_or met j d ≡ true → get_or (set met k true) j d ≡ true
set_kept met k j d less e = elim (cases_eq j k) [
  | inl same ↦ ap (λ x. get_or (set met k true) x d) same ∙ get_or-set_same met k true d less
  | inr n ↦ get_or-set_other met k j true d n ∙ e
]

abbrev pub with_place : ℕ → Found → Found
with_place k f = record { met = set f.met k true; queue = f.queue ++ k ∷ [] }

pushed : (k : ℕ) (queue : List ℕ) → length (queue ++ k ∷ []) ≡ suc (length queue)
pushed k queue = let e : length (queue ++ k ∷ []) ≡ length queue + 1 = length_push queue k in omega (arith, e)

reached_with : (ns : List Node) (i k : ℕ) (f : Found) → IsSearch ns i f → reaches (suc (length f.queue)) ns k i ≡ true → (j : ℕ) → get_or (set f.met k true) j false ≡ true → reaches (length (f.queue ++ k ∷ [])) ns j i ≡ true
reached_with ns i k f s r j m = ap (λ n. reaches n ns j i) (pushed k f.queue) ∙ elim (cases_eq j k) [
  | inl same ↦ ap (λ x. reaches (suc (length f.queue)) ns x i) same ∙ r
  | inr n ↦ reaches_more (length f.queue) ns j i (s.reached j (sym (get_or-set_other f.met k j true false n) ∙ m))
]

queued_with : (ns : List Node) (i k : ℕ) (f : Found) → IsSearch ns i f → (j : ℕ) → get_or (set f.met k true) j false ≡ true → (q : ℕ) × (q < length (f.queue ++ k ∷ [])) × (get_or (f.queue ++ k ∷ []) q 0 ≡ j)
queued_with ns i k f s j m =
    let more : length (f.queue ++ k ∷ []) ≡ suc (length f.queue) = pushed k f.queue in elim (cases_eq j k) [
      | inl same ↦ (length f.queue, omega (arith, more), get_or_push f.queue k 0 (length f.queue) refl ∙ sym same)
      | inr n ↦
          let w = s.queued j (sym (get_or-set_other f.met k j true false n) ∙ m) in
          let less : w.0 < length f.queue = w.1 in
          (w.0, omega (arith, more, less), get_or_append_left f.queue (k ∷ []) 0 w.0 less ∙ w.2)
    ]

met_with : (ns : List Node) (i k : ℕ) (f : Found) → IsSearch ns i f → k < length f.met → (q : ℕ) → q < length (f.queue ++ k ∷ []) → get_or (set f.met k true) (get_or (f.queue ++ k ∷ []) q 0) false ≡ true
met_with ns i k f s here q less =
    let more : length (f.queue ++ k ∷ []) ≡ suc (length f.queue) = pushed k f.queue in elim (cases_eq q (length f.queue)) [
      | inl last ↦ ap (λ x. get_or (set f.met k true) x false) (get_or_push f.queue k 0 q (sym last)) ∙ get_or-set_same f.met k true false here
      | inr n ↦
          let before : q < length f.queue = omega (arith, n, more, less) in
          ap (λ x. get_or (set f.met k true) x false) (get_or_append_left f.queue (k ∷ []) 0 q before)
          ∙ set_kept f.met k (get_or f.queue q 0) false here (s.met q before)
    ]

search_with : (ns : List Node) (i k : ℕ) (f : Found) → is_met f.met k ≡ false → IsSearch ns i f → reaches (suc (length f.queue)) ns k i ≡ true → IsSearch ns i (with_place k f)
search_with ns i k f e s r = record {
  count = length-set f.met k true ∙ s.count;
  size = count_more f.met k e ∙ ap (λ n. n + 1) s.size ∙ sym (length_push f.queue k);
  reached = reached_with ns i k f s r;
  queued = queued_with ns i k f s;
  met = met_with ns i k f s (inside f.met k e);
}

grows_with : (k : ℕ) (f : Found) → is_met f.met k ≡ false → Grows f (with_place k f)
grows_with k f e = record {
  more = λ j m. set_kept f.met k j true (inside f.met k e) m;
  kept = λ q less. get_or_append_left f.queue (k ∷ []) 0 q less;
  size = let more : length (f.queue ++ k ∷ []) ≡ suc (length f.queue) = pushed k f.queue in omega (arith, more);
}

-- ---- coming to a place
search_if : (b : Bool) (ns : List Node) (i k : ℕ) (f : Found) → is_met f.met k ≡ b → IsSearch ns i f → reaches (suc (length f.queue)) ns k i ≡ true → IsSearch ns i (cond b f (with_place k f))
search_if true ns i k f e s r = s
search_if false ns i k f e s r = search_with ns i k f e s r

grows_if : (b : Bool) (k : ℕ) (f : Found) → is_met f.met k ≡ b → Grows f (cond b f (with_place k f))
grows_if true k f e = grows_none f
grows_if false k f e = grows_with k f e

met_if : (b : Bool) (k : ℕ) (f : Found) → is_met f.met k ≡ b → is_met (cond b f (with_place k f)).met k ≡ true
met_if true k f e = e
met_if false k f e = get_or-set_same f.met k true true (inside f.met k e)

come_search : (ns : List Node) (i k : ℕ) (f : Found) → IsSearch ns i f → reaches (suc (length f.queue)) ns k i ≡ true → IsSearch ns i (come_to k f)
come_search ns i k f s r = search_if (is_met f.met k) ns i k f refl s r

come_grows : (k : ℕ) (f : Found) → Grows f (come_to k f)
come_grows k f = grows_if (is_met f.met k) k f refl

come_met : (k : ℕ) (f : Found) → is_met (come_to k f).met k ≡ true
come_met k f = met_if (is_met f.met k) k f refl

-- ---- coming to where steps lead
on_search : (ns : List Node) (i c : ℕ) (ss : List (Option ℕ)) (f : Found) → c ≤ suc (length f.queue) → are_reached ns c i ss ≡ true → IsSearch ns i f → IsSearch ns i (come_on ss f)
on_search ns i c [] f le r s = s
on_search ns i c (None ∷ ss) f le r s = on_search ns i c ss f le r s
on_search ns i c (Some k ∷ ss) f le r s =
    let both = and_parts (reaches c ns k i) (are_reached ns c i ss) r in
    let more : length f.queue ≤ length (come_to k f).queue = (come_grows k f).size in
    on_search ns i c ss (come_to k f) (omega (arith, le, more)) both.1 (come_search ns i k f s (reaches_up (suc (length f.queue)) c ns k i le both.0))

on_grows : (ss : List (Option ℕ)) (f : Found) → Grows f (come_on ss f)
on_grows [] f = grows_none f
on_grows (None ∷ ss) f = on_grows ss f
on_grows (Some k ∷ ss) f = grows_then f (come_to k f) (come_on ss (come_to k f)) (come_grows k f) (on_grows ss (come_to k f))

on_met : (ss : List (Option ℕ)) (f : Found) → are_met (come_on ss f).met ss ≡ true
on_met [] f = refl
on_met (None ∷ ss) f = on_met ss f
on_met (Some k ∷ ss) f =
    let g : Found = come_on ss (come_to k f) in
    and_from (is_met g.met k) (are_met g.met ss) ((on_grows ss (come_to k f)).more k (come_met k f)) (on_met ss (come_to k f))

met_still : (f g : Found) (ss : List (Option ℕ)) → Grows f g → are_met f.met ss ≡ true → are_met g.met ss ≡ true
met_still f g ss grows e = so_more (is_met f.met) (is_met g.met) ss grows.more e

-- ---- the whole search
pub record IsSearchedTo (ns : List Node) (i index : ℕ) (f : Found) : Type 0 where
  pub search : IsSearch ns i f
  pub begun : are_met f.met (steps ns i) ≡ true
  pub closed : (q : ℕ) → q < index → are_met f.met (steps ns (get_or f.queue q 0)) ≡ true
  pub within : index ≤ length f.queue

pub searched_first : (ns : List Node) (i n : ℕ) → n ≡ length ns → IsSearchedTo ns i 0 (come_on (steps ns i) (record { met = replicate n false; queue = [] }))
searched_first ns i n e =
    let f : Found = record { met = replicate n false; queue = [] } in record {
      search = on_search ns i 1 (steps ns i) f (omega arith) (first_reached ns i) (search_begins ns i n e);
      begun = on_met (steps ns i) f;
      closed = λ q less. absurd (omega (arith, less));
      within = omega arith;
    }

pub searched_next : (ns : List Node) (i index j : ℕ) (f : Found) → IsSearchedTo ns i index f → index < length f.queue → j ≡ get_or f.queue index 0 → IsSearchedTo ns i (index + 1) (come_on (steps ns j) f)
searched_next ns i index j f s less j_is =
    let g : Found = come_on (steps ns j) f in
    let grows : Grows f g = on_grows (steps ns j) f in
    let is_met_here : get_or f.met j false ≡ true = ap (λ x. get_or f.met x false) j_is ∙ s.search.met index less in
    let size : length f.queue ≤ length g.queue = grows.size in record {
      search = on_search ns i (suc (length f.queue)) (steps ns j) f (omega arith) (next_reached (length f.queue) ns j i (s.search.reached j is_met_here)) s.search;
      begun = met_still f g (steps ns i) grows s.begun;
      closed = λ q under. elim (cases_eq q index) [
        | inl same ↦
            let q_is : get_or g.queue q 0 ≡ j = ap (λ x. get_or g.queue x 0) same ∙ grows.kept index less ∙ sym j_is in
            ap (λ x. are_met g.met (steps ns x)) q_is ∙ on_met (steps ns j) f
        | inr n ↦
            let before : q < index = omega (arith, n, under) in
            let there : q < length f.queue = omega (arith, before, less) in
            ap (λ x. are_met g.met (steps ns x)) (grows.kept q there) ∙ met_still f g (steps ns (get_or f.queue q 0)) grows (s.closed q before)
      ];
      within = omega (arith, less, size);
    }

-- it comes to no more places than there are
pub few_queued : (ns : List Node) (i index : ℕ) (f : Found) → IsSearchedTo ns i index f → length f.queue ≤ length ns
few_queued ns i index f s =
    let a : length f.met ≡ length ns = s.search.count in
    let b : count_met f.met ≡ length f.queue = s.search.size in
    let c : count_met f.met ≤ length f.met = count_within f.met in omega (arith, a, b, c)

pub searched_last : (ns : List Node) (i index : ℕ) (f : Found) → IsSearchedTo ns i index f → length f.queue ≤ index → IsSearched ns i f.met
searched_last ns i index f s end = record {
  count = s.search.count;
  reached = λ j m. reaches_up (length ns) (length f.queue) ns j i (few_queued ns i index f s) (s.search.reached j m);
  begun = s.begun;
  closed = λ j m.
      let w = s.search.queued j m in
      let there : w.0 < length f.queue = w.1 in
      ap (λ x. are_met f.met (steps ns x)) (sym w.2) ∙ s.closed w.0 (omega (arith, there, end));
}

-- ---- what it says
not_here : (met : List Bool) (i k : ℕ) → i < length met → get_or met i false ≡ false → is_met met k ≡ true → (k == i) ≡ false
not_here met i k less not_it m = ne_eqb k i (λ same. true≢false (sym m ∙ ap (is_met met) same ∙ get_or_default met i true false less ∙ not_it))

never_reached : (c : ℕ) (ns : List Node) (i j : ℕ) (met : List Bool) → IsSearched ns i met → i < length ns → get_or met i false ≡ false → are_met met (steps ns j) ≡ true → reaches c ns i j ≡ false
never_reached zero ns i j met s less not_it e = refl
never_reached (suc c) ns i j met s less not_it e =
    let count : length met ≡ length ns = s.count in
    let here : i < length met = omega (arith, less, count) in
    none_leads (is_met met) (comes_to c ns i) (steps ns j) (λ k m. or_none (k == i) (reaches c ns i k) (not_here met i k here not_it m) (elim (cases_lt k (length ns)) [
      | inl within ↦
          let there : k < length met = omega (arith, within, count) in
          never_reached c ns i k met s less not_it (s.closed k (get_or_default met k false true there ∙ m))
      | inr le ↦ reaches_past c ns i k le
    ])) e

pub searched_answer : (ns : List Node) (i : ℕ) (met : List Bool) → IsSearched ns i met → get_or met i false ≡ reaches_itself ns i
unfolding reaches_itself
searched_answer ns i met s = elim (cases_Bool (get_or met i false)) [
  | inl is_it ↦ is_it ∙ sym (s.reached i is_it)
  | inr not_it ↦ not_it ∙ sym (elim (cases_lt i (length ns)) [
    | inl less ↦ never_reached (length ns) ns i i met s less not_it s.begun
    | inr le ↦ reaches_past (length ns) ns i i le
  ])
]

-- ---- as the code comes to it
pub begun_as : (ns : List Node) (i n : ℕ) (old new : Found) (ss : List (Option ℕ)) → n ≡ length ns → old ≡ record { met = replicate n false; queue = [] } → ss ≡ steps ns i → new ≡ come_on ss old → IsSearchedTo ns i 0 new
begun_as ns i n old new ss n_is old_is ss_is new_is =
    let all : new ≡ come_on (steps ns i) (record { met = replicate n false; queue = [] }) = new_is ∙ ap (λ l. come_on l old) ss_is ∙ ap (come_on (steps ns i)) old_is in
    rw all (searched_first ns i n n_is)

pub next_as : (ns : List Node) (i index j : ℕ) (f new : Found) (ss : List (Option ℕ)) → IsSearchedTo ns i index f → index < length f.queue → j ≡ get_or f.queue index 0 → ss ≡ steps ns j → new ≡ come_on ss f → IsSearchedTo ns i (index + 1) new
next_as ns i index j f new ss s less j_is ss_is new_is =
    let all : new ≡ come_on (steps ns j) f = new_is ∙ ap (λ l. come_on l f) ss_is in
    rw all (searched_next ns i index j f s less j_is)
