-- Places in a sorted list of characters.
use Rattle.std.proofs.Common.{Fits, w8, ◌≡◌, ℕ, zero, suc, ◌+◌, ◌<◌, ◌≤◌, inl, inr, Bool, true, false, cond, eqb, leb, ◌&&◌, List, [], ◌∷◌, length, get_or, Option, Some, None, Result, Ok, Err, MatchResult, refl, sym, ap, ◌∙◌, arith}
use Rattle.std.proofs.lemmas.Bool.{and_parts, cases_lt, eq-eqb, eqb-true, leb-true, ne_eqb}
use Rattle.std.proofs.lemmas.List.Sorted.{searched}
use Rattle.std.specs.List.Sorted.{IsBinarySearchResult}
use Rattle.std.specs.Ordering.{nat_cmp}
use Rattle.std.specs.Result.{result_ok}
use Rattle.exi_names.specs.Alphabets.{is_alphabet, rises_from, one_more, place_of}
use Rattle.exi_names.specs.Characters.{is_xml_char}

rise_parts : (least c : ℕ) (cs : List ℕ) → rises_from least (c ∷ cs) ≡ true → (least ≤ c) × (rises_from (c + 1) cs ≡ true)
rise_parts least c cs h =
    let p = and_parts (leb least c && is_xml_char c) (rises_from (c + 1) cs) h in
    let q = and_parts (leb least c) (is_xml_char c) p.0 in
    (leb-true least c q.0, p.1)

rise_from : (cs : List ℕ) (least i : ℕ) → rises_from least cs ≡ true → i < length cs → least ≤ get_or cs i 0
rise_from [] least i h lt = absurd (omega arith)
rise_from (c ∷ cs) least zero h lt = (rise_parts least c cs h).0
rise_from (c ∷ cs) least (suc i) h lt =
    let p = rise_parts least c cs h in
    let more : c + 1 ≤ get_or cs i 0 = rise_from cs (c + 1) i p.1 (omega arith) in
    omega (arith, p.0)

pub rise_up : (cs : List ℕ) (least i j : ℕ) → rises_from least cs ≡ true → i < j → j < length cs → get_or cs i 0 < get_or cs j 0
rise_up [] least i j h lt in_cs = absurd (omega arith)
rise_up (c ∷ cs) least i zero h lt in_cs = absurd (omega arith)
rise_up (c ∷ cs) least zero (suc j) h lt in_cs =
    let p = rise_parts least c cs h in
    let more : c + 1 ≤ get_or cs j 0 = rise_from cs (c + 1) j p.1 (omega arith) in
    omega arith
rise_up (c ∷ cs) least (suc i) (suc j) h lt in_cs = rise_up cs (c + 1) i j (rise_parts least c cs h).1 (omega arith) (omega arith)

-- the first that is the character is at the place where it stands
pub placed : (c : ℕ) (cs : List ℕ) (i : ℕ) → ((k : ℕ) → k < i → get_or cs k 0 < c) → i < length cs → get_or cs i 0 ≡ c → place_of c cs ≡ Some i
placed c [] i low lt here = absurd (omega arith)
placed c (x ∷ xs) zero low lt here = rw (eq-eqb c x (sym here)) refl
placed c (x ∷ xs) (suc i) low lt here =
    let other : x < c = low 0 (omega arith) in
    rw (ne_eqb c x (λ e. omega arith), placed c xs i (λ k less. low (suc k) (omega arith)) (omega arith) here) refl

pub absent : (c : ℕ) (cs : List ℕ) → ((k : ℕ) → k < length cs → get_or cs k 0 ≡ c → ⊥) → place_of c cs ≡ None
absent c [] none = refl
absent c (x ∷ xs) none = rw (ne_eqb c x (λ e. none 0 (omega arith) (sym e)), absent c xs (λ k less. none (suc k) (omega arith))) refl

found : (c : ℕ) (cs : List ℕ) (r : Result ℕ ℕ) → is_alphabet cs ≡ true
    → MatchResult r (λ i. (i < length cs) × (get_or cs i 0 ≡ c)) (λ i. (i ≤ length cs) × ((k : ℕ) → k < i → get_or cs k 0 < c) × ((k : ℕ) → i ≤ k → k < length cs → c < get_or cs k 0))
    → result_ok r ≡ place_of c cs
found c cs (Ok i) sorted h = sym (placed c cs i (λ k less. let up : get_or cs k 0 < get_or cs i 0 = rise_up cs 0 k i sorted less h.0 in omega (arith, h.1)) h.0 h.1)
found c cs (Err i) sorted h = sym (absent c cs none)
  where
    none : (k : ℕ) → k < length cs → get_or cs k 0 ≡ c → ⊥
    none k less e = elim (cases_lt k i) [
      | inl low ↦ let p = h.1 k low in omega arith
      | inr high ↦ let p = h.2 k high less in omega arith
    ]

-- what a search in a sorted set finds
pub searched_is : (c : ℕ) (cs : List ℕ) (r : Result ℕ ℕ) → is_alphabet cs ≡ true → IsBinarySearchResult (λ y. nat_cmp y c) cs r → result_ok r ≡ place_of c cs
searched_is c cs r sorted h = found c cs r sorted (searched cs c r h up)
  where
    up : (i j : ℕ) → i ≤ j → j < length cs → get_or cs i 0 ≤ get_or cs j 0
    up i j le lt = elim (cases_lt i j) [
      | inl less ↦ let p = rise_up cs 0 i j sorted less lt in omega arith
      | inr not_less ↦ let e : i ≡ j = omega arith in rw e (omega arith)
    ]

-- a place that is found lies in the set, and the character stands there
some_place : ℕ → Option ℕ
some_place i = Some i

is_here : (c x : ℕ) (xs : List ℕ) (i : ℕ) → c ≡ x → some_place 0 ≡ some_place i → (i < suc (length xs)) × (get_or (x ∷ xs) i 0 ≡ c)
unfolding some_place
is_here c x xs zero e q = (omega arith, sym e)
is_here c x xs (suc i) e q = absurd cc

is_later : (c x : ℕ) (xs : List ℕ) (i : ℕ) (o : Option ℕ) → ((k : ℕ) → o ≡ some_place k → (k < length xs) × (get_or xs k 0 ≡ c)) → one_more o ≡ some_place i → (i < suc (length xs)) × (get_or (x ∷ xs) i 0 ≡ c)
unfolding some_place
is_later c x xs i None h q = absurd cc
is_later c x xs zero (Some k) h q = absurd cc
is_later c x xs (suc i) (Some k) h q =
    let e : k ≡ i = cc in
    let p = h k refl in
    (omega (arith, p.0), ap (λ (n : ℕ). get_or xs n 0) (sym e) ∙ p.1)

is_either : (c x : ℕ) (xs : List ℕ) (i : ℕ) (b : Bool) → eqb c x ≡ b → ((k : ℕ) → place_of c xs ≡ some_place k → (k < length xs) × (get_or xs k 0 ≡ c)) → cond b (some_place 0) (one_more (place_of c xs)) ≡ some_place i → (i < suc (length xs)) × (get_or (x ∷ xs) i 0 ≡ c)
is_either c x xs i true e h q = is_here c x xs i (eqb-true c x e) q
is_either c x xs i false e h q = is_later c x xs i (place_of c xs) h q

pub place_is : (c : ℕ) (cs : List ℕ) (i : ℕ) → place_of c cs ≡ Some i → (i < length cs) × (get_or cs i 0 ≡ c)
unfolding some_place
place_is c [] i e = absurd cc
place_is c (x ∷ xs) i e = is_either c x xs i (eqb c x) refl (λ k q. place_is c xs k q) e

-- what is no byte stands at no place among bytes
pub no_byte : (c : ℕ) (bs : List ℕ) → ((i : ℕ) → Fits w8 (get_or bs i 0)) → (c < 256 → ⊥) → place_of c bs ≡ None
no_byte c bs fits large = absent c bs (λ k less e. let f = fits k in let h : get_or bs k 0 < 256 = omega arith in large (rw e at h))
