-- A character put at its place among sorted ones.
use Rattle.std.proofs.Common.{◌≡◌, ℕ, zero, suc, ◌+◌, ◌<◌, ◌≤◌, inl, inr, Bool, true, false, cond, eqb, leb, ltb, ◌&&◌, List, [], ◌∷◌, ◌++◌, length, get_or, take, drop, Option, Some, None, Result, Ok, Err, MatchResult, refl, sym, ap, ◌∙◌, arith}
use Rattle.std.proofs.lemmas.Bool.{and_parts, and_from, cases_lt, eq-eqb, eqb-false, ltb-true, ltb-false, leb-true, le-leb, lt-ltb, le-ltb, ne_eqb}
use Rattle.std.proofs.lemmas.List.Sorted.{searched}
use Rattle.std.specs.List.Sorted.{IsBinarySearchResult}
use Rattle.std.specs.Ordering.{nat_cmp}
use Rattle.exi_names.specs.Alphabets.{is_alphabet, rises_from}
use Rattle.exi_names.specs.Characters.{is_xml_char}
use Rattle.exi_pattern.specs.Sets.{with_char}

rise_parts : (least c : ℕ) (cs : List ℕ) → rises_from least (c ∷ cs) ≡ true → (least ≤ c) × (is_xml_char c ≡ true) × (rises_from (c + 1) cs ≡ true)
rise_parts least c cs h =
    let p = and_parts (leb least c && is_xml_char c) (rises_from (c + 1) cs) h in
    let q = and_parts (leb least c) (is_xml_char c) p.0 in
    (leb-true least c q.0, q.1, p.1)

rise_from : (cs : List ℕ) (least i : ℕ) → rises_from least cs ≡ true → i < length cs → least ≤ get_or cs i 0
rise_from [] least i h lt = absurd (omega arith)
rise_from (c ∷ cs) least zero h lt = (rise_parts least c cs h).0
rise_from (c ∷ cs) least (suc i) h lt =
    let p = rise_parts least c cs h in
    let more : c + 1 ≤ get_or cs i 0 = rise_from cs (c + 1) i p.2 (omega arith) in
    omega (arith, p.0)

rise_up : (cs : List ℕ) (least i j : ℕ) → rises_from least cs ≡ true → i < j → j < length cs → get_or cs i 0 < get_or cs j 0
rise_up [] least i j h lt in_cs = absurd (omega arith)
rise_up (c ∷ cs) least i zero h lt in_cs = absurd (omega arith)
rise_up (c ∷ cs) least zero (suc j) h lt in_cs =
    let p = rise_parts least c cs h in
    let more : c + 1 ≤ get_or cs j 0 = rise_from cs (c + 1) j p.2 (omega arith) in
    omega arith
rise_up (c ∷ cs) least (suc i) (suc j) h lt in_cs = rise_up cs (c + 1) i j (rise_parts least c cs h).2 (omega arith) (omega arith)

no_lower : (cs : List ℕ) → is_alphabet cs ≡ true → (i j : ℕ) → i ≤ j → j < length cs → get_or cs i 0 ≤ get_or cs j 0
no_lower cs sorted i j le lt = elim (cases_lt i j) [
  | inl less ↦ let p = rise_up cs 0 i j sorted less lt in omega arith
  | inr not_less ↦ let e : i ≡ j = omega arith in rw e (omega arith)
]

-- between what is lower and what is higher
put_at : (c : ℕ) (cs : List ℕ) (i : ℕ) → i ≤ length cs → ((k : ℕ) → k < i → get_or cs k 0 < c) → ((k : ℕ) → i ≤ k → k < length cs → c < get_or cs k 0) → take i cs ++ c ∷ drop i cs ≡ with_char c cs
put_at c [] zero le low high = refl
put_at c [] (suc i) le low high = absurd (omega arith)
put_at c (x ∷ xs) zero le low high =
    let less : c < x = high 0 (omega arith) (omega arith) in
    rw (lt-ltb c x less) refl
put_at c (x ∷ xs) (suc i) le low high =
    let less : x < c = low 0 (omega arith) in
    rw (le-ltb c x (omega arith), ne_eqb c x (λ e. omega arith))
    (ap (λ (t : List ℕ). x ∷ t) (put_at c xs i (omega arith) (λ k h. low (suc k) (omega arith)) (λ k h lt. high (suc k) (omega arith) (omega arith))))

-- where it stands already
stands : (c least : ℕ) (cs : List ℕ) (i : ℕ) → rises_from least cs ≡ true → i < length cs → get_or cs i 0 ≡ c → cs ≡ with_char c cs
stands c least [] i h lt e = absurd (omega arith)
stands c least (x ∷ xs) zero h lt e = rw (le-ltb c x (omega arith), eq-eqb c x (sym e)) refl
stands c least (x ∷ xs) (suc i) h lt e =
    let p = rise_parts least x xs h in
    let up : x + 1 ≤ get_or xs i 0 = rise_from xs (x + 1) i p.2 (omega arith) in
    rw (le-ltb c x (omega arith), ne_eqb c x (λ q. omega arith)) (ap (λ (t : List ℕ). x ∷ t) (stands c (x + 1) xs i p.2 (omega arith) e))

abbrev Found : ℕ → List ℕ → Result ℕ ℕ → Type 0
Found c cs r = MatchResult r (λ i. (i < length cs) × (get_or cs i 0 ≡ c)) (λ i. (i ≤ length cs) × ((k : ℕ) → k < i → get_or cs k 0 < c) × ((k : ℕ) → i ≤ k → k < length cs → c < get_or cs k 0))

found_it : (c : ℕ) (cs : List ℕ) (r : Result ℕ ℕ) → is_alphabet cs ≡ true → IsBinarySearchResult (λ y. nat_cmp y c) cs r → Found c cs r
found_it c cs r sorted h = searched cs c r h (no_lower cs sorted)

pub put : (c : ℕ) (cs : List ℕ) (i : ℕ) → is_alphabet cs ≡ true → IsBinarySearchResult (λ y. nat_cmp y c) cs (Err i) → (take i cs ++ c ∷ drop i cs ≡ with_char c cs) × (i ≤ length cs)
put c cs i sorted h = let f = found_it c cs (Err i) sorted h in (put_at c cs i f.0 f.1 f.2, f.0)

pub there : (c : ℕ) (cs : List ℕ) (i : ℕ) → is_alphabet cs ≡ true → IsBinarySearchResult (λ y. nat_cmp y c) cs (Ok i) → cs ≡ with_char c cs
there c cs i sorted h = let f = found_it c cs (Ok i) sorted h in stands c 0 cs i sorted f.0 f.1

-- it stays sorted
if_rises : (least : ℕ) (b : Bool) (p q : List ℕ) → (b ≡ true → rises_from least p ≡ true) → (b ≡ false → rises_from least q ≡ true) → rises_from least (cond b p q) ≡ true
if_rises least true p q h k = h refl
if_rises least false p q h k = k refl

rises_on : (least c : ℕ) (cs : List ℕ) → least ≤ c → is_xml_char c ≡ true → rises_from (c + 1) cs ≡ true → rises_from least (c ∷ cs) ≡ true
rises_on least c cs le xml more = and_from (leb least c && is_xml_char c) (rises_from (c + 1) cs) (and_from (leb least c) (is_xml_char c) (le-leb least c le) xml) more

still : (least c : ℕ) (cs : List ℕ) → rises_from least cs ≡ true → least ≤ c → is_xml_char c ≡ true → rises_from least (with_char c cs) ≡ true
still least c [] h le xml = rises_on least c [] le xml refl
still least c (x ∷ xs) h le xml =
    let p = rise_parts least x xs h in
    if_rises least (ltb c x) (c ∷ x ∷ xs) (cond (eqb c x) (x ∷ xs) (x ∷ with_char c xs))
    (λ less. rises_on least c (x ∷ xs) le xml (rises_on (c + 1) x xs (let l = ltb-true c x less in omega arith) p.1 p.2))
    (λ no. if_rises least (eqb c x) (x ∷ xs) (x ∷ with_char c xs) (λ same. h)
    (λ other. rises_on least x (with_char c xs) p.0 p.1 (still (x + 1) c xs p.2 (let l = ltb-false c x no in let o = eqb-false c x other in (elim (cases_lt x c) [ inl up ↦ omega arith | inr down ↦ absurd (o (omega arith)) ])) xml)))

pub still_alphabet : (c : ℕ) (cs : List ℕ) → is_alphabet cs ≡ true → is_xml_char c ≡ true → is_alphabet (with_char c cs) ≡ true
still_alphabet c cs h xml = still 0 c cs h (omega arith) xml
