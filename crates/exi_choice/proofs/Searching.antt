-- Of the productions of a state of the book the first that suits is found: by a walk over all, and by those alone that are
-- looked up for the event.
use Rattle.std.proofs.Common.{◌≡◌, inl, inr, ℕ, ◌+◌, ◌-◌, ◌^◌, get_or, option_map, ◌<◌, ◌≤◌, Bool, true, false, List, length, map, slice_get, Option, Some, None, refl, sym, ap, ◌∙◌, subst, arith}
use Rattle.std.specs.Option.{is_some}
use Rattle.std.proofs.lemmas.Bool.{and_parts, cases_lt}
use Rattle.std.proofs.lemmas.List.{length-map}
use Rattle.std.proofs.lemmas.Option.{slice_get-get_or, slice_get-map, slice_get_within}
use Rattle.exi_candidates.specs.Keys.{keys}
use Rattle.exi_candidates.specs.Order.{IsNext, floor_of, is_tried, rank, rank_in}
use Rattle.exi_candidates.specs.declared.key.Key.{Key}
use Rattle.exi_gram.specs.Books.{Contents, IsBook, IsStateOf, state_at}
use Rattle.exi_gram.specs.Codes.{Coded, Productions, coded}
use Rattle.exi_gram.specs.Naming.{Entry}
use Rattle.exi_gram.specs.Outlines.{Outline}
use Rattle.exi_gram.specs.Schemas.{IsSchema}
use Rattle.exi_gram.specs.Tables.{coded_of, most_productions, size}
use Rattle.exi_gram.specs.declared.code.Coded.{Coded as Kept}
use Rattle.exi_processing.specs.Rules.{book_rule}
use Rattle.exi_choice.specs.Choices.{FindsFirst, Takes}
use Rattle.exi_choice.specs.Fitting.{fit_in, fitted, value_in}
use Rattle.exi_choice.specs.Sought.{sought_for}
use Rattle.exi_choice.specs.Wanted.{Seeking, is_of, suits_in}
use Rattle.exi_choice.specs.declared.fit.Fit.{Fit}
use Rattle.exi_choice.proofs.Ranks.{HasParts, IsLeast, kept_has_parts, least_fewest, none_fewest, parts_within, rank_is}
use Rattle.exi_choice.proofs.Tellings.{coded_tells}
use Rattle.exi_choice.proofs.Tried.{are_tried}

coded_is : {X : Type 0} (a b : X) → Some a ≡ Some b → a ≡ b
coded_is {X} a b e = cc

true_false : (b : Bool) → b ≡ true → b ≡ false → ⊥
true_false b h k = cc

not_true : (b : Bool) → (b ≡ true → ⊥) → b ≡ false
not_true true h = absurd (h refl)
not_true false h = refl

pub few_mapped : (ks : List Kept) → length ks ≤ most_productions → length (map coded_of ks) ≤ most_productions
few_mapped ks few = let count = length-map ks coded_of in omega (arith, count, few)

-- ---- a walk over all
-- none of the first so many suits
abbrev NoneSuits : Outline → Seeking → List (Coded Entry) → ℕ → Type 0
NoneSuits o s cs end = (i : ℕ) (c : Coded Entry) → i < end → slice_get cs i ≡ Some c → suits_in o s c.item ≡ false

-- the least of the first so many, with the number of its parts
pub record IsSoFar (o : Outline) (s : Seeking) (cs : List (Coded Entry)) (end parts place : ℕ) (kept : Fit) : Type 0 where
  pub before : place < end
  pub least : IsLeast (suits_in o s) cs end place
  pub parts_are : length least.coded.parts ≡ parts
  pub value : fitted (value_in s.having) (Some kept) ≡ fit_in o (book_rule least.coded.item).on s.having

abbrev pub SoFar : Outline → Seeking → List (Coded Entry) → ℕ → ℕ → Option (ℕ × Fit) → Type 0
SoFar o s cs end parts None = (parts ≡ 4) × NoneSuits o s cs end
SoFar o s cs end parts (Some found) = IsSoFar o s cs end parts found.0 found.1

-- what holds before a place and there holds up to the next
up_to : (P : ℕ → Coded Entry → Type 0) (cs : List (Coded Entry)) (end : ℕ) (d : Coded Entry) → slice_get cs end ≡ Some d → ((i : ℕ) (c : Coded Entry) → i < end → slice_get cs i ≡ Some c → P i c) → P end d
    → (i : ℕ) (c : Coded Entry) → i < end + 1 → slice_get cs i ≡ Some c → P i c
up_to P cs end d at before this i c less e = elim (cases_lt i end) [
  | inl l ↦ before i c l e
  | inr past ↦
      let same : end ≡ i = omega (arith, less, past) in
      let there : slice_get cs end ≡ Some c = ap (slice_get cs) same ∙ e in
      subst (λ (z : ℕ). P z c) same (subst (P end) (coded_is d c (sym at ∙ there)) this)
]

module _ (o : Outline) (s : Seeking) (cs : List (Coded Entry)) (end : ℕ) (d : Coded Entry) (at : slice_get cs end ≡ Some d) where
  abbrev Fails : ℕ → Coded Entry → Type 0
  Fails i c = suits_in o s c.item ≡ false

  abbrev Behind : ℕ → ℕ → Coded Entry → Type 0
  Behind place i c = suits_in o s c.item ≡ true → rank_in cs place ≤ rank_in cs i

  kept_on : (parts : ℕ) (found : ℕ × Fit) → Behind found.0 end d → SoFar o s cs end parts (Some found) → SoFar o s cs (end + 1) parts (Some found)
  kept_on parts found behind h = record {
    before = let less = h.before in omega (arith, less);
    least = record { coded = h.least.coded; there = h.least.there; passes = h.least.passes; least = λ i c l e t. up_to (Behind found.0) cs end d at (λ j x k f. h.least.least j x k f) behind i c l e t };
    parts_are = h.parts_are;
    value = h.value;
  }

  -- the one at the place has no fewer parts
  pub longer_left : (parts : ℕ) (first : Option (ℕ × Fit)) → HasParts d → parts ≤ length d.parts → SoFar o s cs end parts first → SoFar o s cs (end + 1) parts first
  longer_left parts None has long h = let most = (parts_within d has).1 in absurd (omega (arith, most, long, h.0))
  longer_left parts (Some found) has long h =
      let mine = rank_is cs found.0 h.least.coded h.least.there in
      let own = rank_is cs end d at in
      let same = h.parts_are in
      let less = h.before in
      kept_on parts found (λ t. omega (arith, mine, own, same, less, long)) h

  -- the one at the place does not suit
  pub other_left : (parts : ℕ) (first : Option (ℕ × Fit)) → suits_in o s d.item ≡ false → SoFar o s cs end parts first → SoFar o s cs (end + 1) parts first
  other_left parts None fails h = (h.0, λ i c l e. up_to Fails cs end d at h.1 fails i c l e)
  other_left parts (Some found) fails h = kept_on parts found (λ t. absurd (true_false (suits_in o s d.item) t fails)) h

  -- the one at the place has fewer parts, and suits
  pub this_taken : (parts : ℕ) (first : Option (ℕ × Fit)) (kept : Fit) → length cs ≤ most_productions → length d.parts < parts → Takes o s d (Some kept) → SoFar o s cs end parts first → SoFar o s cs (end + 1) (length d.parts) (Some (end, kept))
  this_taken parts first kept few short takes h = record {
    before = omega arith;
    least = record { coded = d; there = at; passes = takes.0; least = λ i c l e t. up_to (Behind end) cs end d at (ahead first h) (λ u. omega arith) i c l e t };
    parts_are = refl;
    value = takes.1;
  }
    where
      ahead : (first : Option (ℕ × Fit)) → SoFar o s cs end parts first → (i : ℕ) (c : Coded Entry) → i < end → slice_get cs i ≡ Some c → Behind end i c
      ahead None h i c l e t = absurd (true_false (suits_in o s c.item) t (h.1 i c l e))
      ahead (Some found) h i c l e t =
          let k = h.least.least i c l e t in
          let mine = rank_is cs found.0 h.least.coded h.least.there in
          let own = rank_is cs end d at in
          let same = h.parts_are in
          let within = slice_get_within cs end d at in
          omega (arith, k, mine, own, same, within, short, few)

-- the least of all is the first
least_found : (o : Outline) (s : Seeking) (cs : List (Coded Entry)) (place : ℕ) (kept : Fit) → length cs ≤ most_productions → (l : IsLeast (suits_in o s) cs (length cs) place) → HasParts l.coded
    → fitted (value_in s.having) (Some kept) ≡ fit_in o (book_rule l.coded.item).on s.having → FindsFirst o s cs (Some (place, kept))
least_found o s cs place kept few l has value = record { coded = l.coded; there = l.there; first = least_fewest (suits_in o s) cs few place l has; value = value }

pub first_found : (o : Outline) (s : Seeking) (ks : List Kept) (end parts : ℕ) (first : Option (ℕ × Fit)) → length ks ≤ most_productions → length ks ≤ end → SoFar o s (map coded_of ks) end parts first → FindsFirst o s (map coded_of ks) first
first_found o s ks end parts None few all h =
    let count = length-map ks coded_of in
    none_fewest (suits_in o s) (map coded_of ks) (λ i c e. (let within = slice_get_within (map coded_of ks) i c e in h.1 i c (omega (arith, within, count, all)) e))
first_found o s ks end parts (Some found) few all h =
    let count = length-map ks coded_of in
    let l : IsLeast (suits_in o s) (map coded_of ks) (length (map coded_of ks)) found.0 = record { coded = h.least.coded; there = h.least.there; passes = h.least.passes; least = λ i c l e t. h.least.least i c (omega (arith, l, count, all)) e t } in
    least_found o s (map coded_of ks) found.0 found.1 (omega (arith, count, few)) l (kept_has_parts ks found.0 h.least.coded h.least.there) h.value

-- one whose code has one part comes before all that stand behind it
pub shortest_found : (o : Outline) (s : Seeking) (ks : List Kept) (end parts : ℕ) (found : ℕ × Fit) → length ks ≤ most_productions → parts ≡ 1 → SoFar o s (map coded_of ks) end parts (Some found) → FindsFirst o s (map coded_of ks) (Some found)
shortest_found o s ks end parts found few one h =
    let l : IsLeast (suits_in o s) (map coded_of ks) (length (map coded_of ks)) found.0 = record { coded = h.least.coded; there = h.least.there; passes = h.least.passes; least = λ i c l e t. first i c e t } in
    least_found o s (map coded_of ks) found.0 found.1 (few_mapped ks few) l (kept_has_parts ks found.0 h.least.coded h.least.there) h.value
  where
    first : (i : ℕ) (c : Coded Entry) → slice_get (map coded_of ks) i ≡ Some c → suits_in o s c.item ≡ true → rank_in (map coded_of ks) found.0 ≤ rank_in (map coded_of ks) i
    first i c e t = elim (cases_lt i end) [
      | inl less ↦ h.least.least i c less e t
      | inr past ↦
          let mine = rank_is (map coded_of ks) found.0 h.least.coded h.least.there in
          let own = rank_is (map coded_of ks) i c e in
          let some = (parts_within c (kept_has_parts ks i c e)).0 in
          let same = h.parts_are in
          let before = h.before in
          omega (arith, mine, own, some, same, before, one, past)
    ]

-- ---- by those alone that are looked up
-- each that suits is behind the one that was tried
abbrev pub AllBehind : Outline → Seeking → Productions Entry → Option ℕ → Type 0
AllBehind o s p after = (i : ℕ) (c : Coded Entry) → slice_get (coded p) i ≡ Some c → suits_in o s c.item ≡ true → floor_of p after < rank p i

-- a state of a book, of which these codes are kept
pub record IsKept (b : Contents) (grammar number : ℕ) (ks : List Kept) : Type 0 where
  pub book : IsBook b
  pub schema : IsSchema b.schema
  pub exists : IsStateOf b grammar number
  pub codes : map coded_of ks ≡ coded (state_at b grammar number)
  pub small : length ks ≤ most_productions

module _ (b : Contents) (grammar number : ℕ) (s : Seeking) (ks : List Kept) (is : IsKept b grammar number ks) where
  abbrev p : Productions Entry
  p = state_at b grammar number

  abbrev cs : List (Coded Entry)
  cs = coded (state_at b grammar number)

  few : length cs ≤ most_productions
  few = subst (λ (z : List (Coded Entry)). length z ≤ most_productions) is.codes (few_mapped ks is.small)

  have_parts : (i : ℕ) (c : Coded Entry) → slice_get cs i ≡ Some c → HasParts c
  have_parts i c e = kept_has_parts ks i c (ap (λ (z : List (Coded Entry)). slice_get z i) is.codes ∙ e)

  tried : (i : ℕ) (c : Coded Entry) → slice_get cs i ≡ Some c → suits_in b.schema s c.item ≡ true → is_tried (keys (sought_for s.on)) c.item ≡ true
  tried i c e t = are_tried b.schema.names s.on c.item (coded_tells b is.book is.schema grammar number is.exists i c e) (and_parts (is_of s.on (book_rule c.item).on) (is_some (fit_in b.schema (book_rule c.item).on s.having)) t).0

  -- where the next stands, which comes behind the one before
  pub kept_at : (place : ℕ) (kept : Kept) → place < length ks → kept ≡ get_or ks place kept → slice_get cs place ≡ Some (coded_of kept)
  kept_at place kept within there = ap (λ (z : List (Coded Entry)). slice_get z place) (sym is.codes) ∙ slice_get-map coded_of ks place ∙ ap (option_map coded_of) (slice_get-get_or ks place kept within ∙ ap (λ (z : Kept). Some z) (sym there))

  module _ (wanted : List Key) (after : Option ℕ) (place : ℕ) (next : IsNext p wanted after (Some place)) where
    pub place_there : place < size p
    place_there = let h = next.is_one in slice_get_within cs place h.0 h.1

    pub place_kept : place < length ks
    place_kept =
        let count : length (map coded_of ks) ≡ length cs = ap (λ (z : List (Coded Entry)). length z) is.codes in
        let same = length-map ks coded_of in
        let there = place_there in
        omega (arith, there, count, same)

    pub less_left : 2 ^ 34 - floor_of p (Some place) < 2 ^ 34 - floor_of p after
    less_left =
        let h = next.is_one in
        let r = rank_is cs place h.0 h.1 in
        let there = place_there in
        let behind = next.is_behind in
        let below = (parts_within h.0 (have_parts place h.0 h.1)).1 in
        let high : rank p place < 2 ^ 34 = omega (arith, r, there, below, few) in
        omega (arith, high, behind)

  pub all_behind : AllBehind b.schema s p None
  all_behind i c e t =
      let r = rank_is cs i c e in
      let some = (parts_within c (have_parts i c e)).0 in
      omega (arith, r, some)

  module _ (after : Option ℕ) (behind : AllBehind b.schema s p after) where
    pub none_left : IsNext p (keys (sought_for s.on)) after None → FindsFirst b.schema s cs None
    none_left next = none_fewest (suits_in b.schema s) cs (λ i c e. not_true (suits_in b.schema s c.item) (λ t. (let n = next.is_first i c e (tried i c e t) (behind i c e t) in let k = n.1 in absurd cc)))

    module _ (place : ℕ) (next : IsNext p (keys (sought_for s.on)) after (Some place)) (d : Coded Entry) (at : slice_get cs place ≡ Some d) where
      not_before : (i : ℕ) (c : Coded Entry) → slice_get cs i ≡ Some c → suits_in b.schema s c.item ≡ true → rank p place ≤ rank p i
      not_before i c e t =
          let n = next.is_first i c e (tried i c e t) (behind i c e t) in
          let same : place ≡ n.0 = coded_is place n.0 n.1 in
          subst (λ (z : ℕ). rank p z ≤ rank p i) (sym same) n.2

      pub this_found : (kept : Fit) → Takes b.schema s d (Some kept) → FindsFirst b.schema s cs (Some (place, kept))
      this_found kept takes = least_found b.schema s cs place kept few (record { coded = d; there = at; passes = takes.0; least = λ i c l e t. not_before i c e t }) (have_parts place d at) takes.1

      pub still_behind : suits_in b.schema s d.item ≡ false → AllBehind b.schema s p (Some place)
      still_behind fails i c e t = elim (cases_lt (rank p place) (rank p i)) [
        | inl less ↦ less
        | inr past ↦
            let k = not_before i c e t in
            let mine = rank_is cs place d at in
            let own = rank_is cs i c e in
            let here = slice_get_within cs place d at in
            let there = slice_get_within cs i c e in
            let same : place ≡ i = omega (arith, past, k, mine, own, here, there, few) in
            let item : d ≡ c = coded_is d c (sym at ∙ ap (slice_get cs) same ∙ e) in
            absurd (true_false (suits_in b.schema s d.item) (ap (λ (z : Coded Entry). suits_in b.schema s z.item) item ∙ t) fails)
      ]
