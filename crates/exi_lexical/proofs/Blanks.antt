-- White space, at the front, at the end and between words.
use Rattle.std.proofs.Common.{◌≡◌, ℕ, zero, suc, ◌+◌, ◌-◌, ◌<◌, ◌≤◌, true, false, not, ◌==◌, List, [], ◌∷◌, ◌++◌, length, take, drop, get_or, refl, sym, ap, ◌∙◌, subst, inl, inr, arith}
use Rattle.std.proofs.lemmas.List.{append-nil, length-append, drop_more, take_more, drop_all}
use Rattle.std.proofs.lemmas.Bool.{and_parts, cases_Bool}
use Rattle.std.proofs.lemmas.Bool.Decides.{nat_tests}
use Rattle.std.proofs.lemmas.Str.{IsCharBoundary-before_ascii, IsCharBoundary-after_ascii}
use Rattle.std.specs.Str.{IsCharBoundary, IsUtf8}
use Rattle.std.specs.List.{slice_split, onto_first}
use Rattle.exi_lexical.specs.Spaces.{is_space, without_front, without_back, before_rest, squeezed, words, has_no_space, IsBehindWord}

pub space_below : (c : ℕ) → is_space c ≡ true → c < 128
unfolding is_space
space_below c h = grind (arith, nat_tests)

-- ---- the front
pub front_next : (xs : List ℕ) (i : ℕ) → i < length xs → is_space (get_or xs i 0) ≡ true → without_front (drop (i + 1) xs) ≡ without_front (drop i xs)
front_next xs i lt h = rw (drop_more xs i 0 lt, h) refl

pub front_here : (xs : List ℕ) (i : ℕ) → i < length xs → is_space (get_or xs i 0) ≡ false → without_front (drop i xs) ≡ drop i xs
front_here xs i lt h = rw (drop_more xs i 0 lt, h) refl

pub front_none : (xs : List ℕ) (i : ℕ) → length xs ≤ i → without_front (drop i xs) ≡ []
front_none xs i le = rw (drop_all i xs le) refl

-- ---- the end
pub back_space : (xs : List ℕ) (c : ℕ) → is_space c ≡ true → without_back (xs ++ c ∷ []) ≡ without_back xs
back_space [] c h = rw h refl
back_space (x ∷ xs) c h = ap (before_rest x) (back_space xs c h)

before_some : (x : ℕ) (xs : List ℕ) (c : ℕ) → before_rest x (xs ++ c ∷ []) ≡ x ∷ (xs ++ c ∷ [])
before_some x [] c = refl
before_some x (y ∷ xs) c = refl

pub back_other : (xs : List ℕ) (c : ℕ) → is_space c ≡ false → without_back (xs ++ c ∷ []) ≡ xs ++ c ∷ []
back_other [] c h = rw h refl
back_other (x ∷ xs) c h = ap (before_rest x) (back_other xs c h) ∙ before_some x xs c

-- ---- words
abbrev pub put_before : List ℕ → List (List ℕ) → List (List ℕ)
put_before w [] = w ∷ []
put_before w (p ∷ ps) = (w ++ p) ∷ ps

put_one : (x : ℕ) (ps : List (List ℕ)) → onto_first x ps ≡ put_before [] (onto_first x ps)
put_one x [] = refl
put_one x (p ∷ ps) = refl

put_nothing : (xs : List ℕ) → slice_split is_space xs ≡ put_before [] (slice_split is_space xs)
put_nothing [] = refl
put_nothing (x ∷ xs) = elim (cases_Bool (is_space x)) [
  | inl h ↦ rw h refl
  | inr h ↦ rw h (put_one x (slice_split is_space xs))
]

put_more : (x : ℕ) (w : List ℕ) (ps : List (List ℕ)) → onto_first x (put_before w ps) ≡ put_before (x ∷ w) ps
put_more x w [] = refl
put_more x w (p ∷ ps) = refl

pub split_word : (w rest : List ℕ) → has_no_space w ≡ true → slice_split is_space (w ++ rest) ≡ put_before w (slice_split is_space rest)
split_word [] rest h = put_nothing rest
split_word (x ∷ w) rest h =
    let p = and_parts (not (is_space x)) (has_no_space w) h in
    let none : is_space x ≡ false = grind arith in
    rw none (ap (onto_first x) (split_word w rest p.1) ∙ put_more x w (slice_split is_space rest))

pub words_space : (c : ℕ) (cs : List ℕ) → is_space c ≡ true → words (c ∷ cs) ≡ words cs
words_space c cs h = rw h refl

pub words_front : (cs : List ℕ) → words (without_front cs) ≡ words cs
words_front [] = refl
words_front (c ∷ cs) = elim (cases_Bool (is_space c)) [
  | inl h ↦ rw h (words_front cs)
  | inr h ↦ rw (h, h) refl
]

pub word_first : (w rest : List ℕ) → 0 < length w → has_no_space w ≡ true → IsBehindWord rest → words (w ++ rest) ≡ w ∷ words rest
word_first [] rest some h behind = absurd (omega arith)
word_first (x ∷ w) [] some h behind = rw (split_word (x ∷ w) [] h, append-nil w) refl
word_first (x ∷ w) (c ∷ rest) some h behind = rw (split_word (x ∷ w) (c ∷ rest) h, behind, append-nil w) refl

-- ---- the first word
pub front_within : (cs : List ℕ) → length (without_front cs) ≤ length cs
front_within [] = omega arith
front_within (c ∷ cs) = elim (cases_Bool (is_space c)) [
  | inl h ↦ rw h (let e = front_within cs in omega (arith, e))
  | inr h ↦ rw h (omega arith)
]

abbrev FrontIsNone : List ℕ → Type 0
FrontIsNone [] = Unit {0}
FrontIsNone (c ∷ cs) = is_space c ≡ false

front_is_none : (cs : List ℕ) → FrontIsNone (without_front cs)
front_is_none [] = tt
front_is_none (c ∷ cs) = elim (cases_Bool (is_space c)) [
  | inl h ↦ rw h (front_is_none cs)
  | inr h ↦ rw h h
]

not_empty : (rest w r : List ℕ) → FrontIsNone rest → 0 < length rest → rest ≡ w ++ r → IsBehindWord r → 0 < length w
not_empty rest (x ∷ w) r none some parts behind = omega arith
not_empty [] [] r none some parts behind = absurd (omega arith)
not_empty (y ∷ rest) [] r none some parts behind = let b : IsBehindWord (y ∷ rest) = subst IsBehindWord (sym parts) behind in cc (sym b ∙ none)

pub word_cut : (text rest w r : List ℕ) → rest ≡ without_front text → 0 < length rest → rest ≡ w ++ r → has_no_space w ≡ true → IsBehindWord r
    → (words text ≡ w ∷ words r) × (length r < length text)
word_cut text rest w r front some parts word behind =
    let none : FrontIsNone rest = subst FrontIsNone (sym front) (front_is_none text) in
    let long = not_empty rest w r none some parts behind in
    let whole : words text ≡ words (w ++ r) = sym (words_front text) ∙ ap words (sym front ∙ parts) in
    let within : length (without_front text) ≤ length text = front_within text in
    (whole ∙ word_first w r long word behind, omega (arith, ap length front, ap length parts, length-append w r))

pub no_word : (text rest : List ℕ) → rest ≡ without_front text → length rest ≡ 0 → words text ≡ []
no_word text [] front none = sym (words_front text) ∙ ap words (sym front)
no_word text (x ∷ rest) front none = absurd (omega arith)

pub no_space_more : (xs : List ℕ) (c : ℕ) → has_no_space xs ≡ true → is_space c ≡ false → has_no_space (xs ++ c ∷ []) ≡ true
no_space_more [] c h none = rw none refl
no_space_more (x ∷ xs) c h none =
    let p = and_parts (not (is_space x)) (has_no_space xs) h in
    rw (p.0, no_space_more xs c p.1 none) refl

-- ---- a loop over the bytes of a text, which are the list `bytes`
pub cut_there : (text bytes : List ℕ) (i : ℕ) → bytes ≡ text → i < length bytes → is_space (get_or bytes i 0) ≡ true → IsCharBoundary text i
cut_there text bytes i same lt h =
    let below = space_below (get_or bytes i 0) h in
    let e : get_or bytes i 0 ≡ get_or text i 0 = ap (λ (xs : List ℕ). get_or xs i 0) same in
    IsCharBoundary-before_ascii text i (omega (arith, ap length same)) (omega arith)

pub cut_behind : (text bytes : List ℕ) (i : ℕ) → IsUtf8 text → bytes ≡ text → i < length bytes → is_space (get_or bytes i 0) ≡ true → IsCharBoundary text (i + 1)
cut_behind text bytes i fits same lt h =
    let below = space_below (get_or bytes i 0) h in
    let e : get_or bytes i 0 ≡ get_or text i 0 = ap (λ (xs : List ℕ). get_or xs i 0) same in
    IsCharBoundary-after_ascii text i fits (omega (arith, ap length same)) (omega arith)

pub no_space_next : (xs : List ℕ) (i : ℕ) → i < length xs → has_no_space (take i xs) ≡ true → is_space (get_or xs i 0) ≡ false → has_no_space (take (i + 1) xs) ≡ true
no_space_next xs i lt h none = rw (take_more xs i 0 lt) (no_space_more (take i xs) (get_or xs i 0) h none)

-- at the end of the text but one
pub back_next : (xs : List ℕ) (i : ℕ) → 0 < i → i ≤ length xs → is_space (get_or xs (i - 1) 0) ≡ true → without_back (take (i - 1) xs) ≡ without_back (take i xs)
back_next xs i some within h =
    let e : i ≡ i - 1 + 1 = omega arith in
    let lt : i - 1 < length xs = omega arith in
    sym (ap (λ (k : ℕ). without_back (take k xs)) e ∙ ap without_back (take_more xs (i - 1) 0 lt) ∙ back_space (take (i - 1) xs) (get_or xs (i - 1) 0) h)

pub back_here : (xs : List ℕ) (i : ℕ) → 0 < i → i ≤ length xs → is_space (get_or xs (i - 1) 0) ≡ false → without_back (take i xs) ≡ take i xs
back_here xs i some within h =
    let e : i ≡ i - 1 + 1 = omega arith in
    let lt : i - 1 < length xs = omega arith in
    let parts : take i xs ≡ take (i - 1) xs ++ get_or xs (i - 1) 0 ∷ [] = ap (λ (k : ℕ). take k xs) e ∙ take_more xs (i - 1) 0 lt in
    ap without_back parts ∙ back_other (take (i - 1) xs) (get_or xs (i - 1) 0) h ∙ sym parts

pub back_none : (xs : List ℕ) (i : ℕ) → i ≡ 0 → without_back (take i xs) ≡ take i xs
back_none xs zero h = refl
back_none xs (suc i) h = cc

pub is_none : (n : ℕ) → (n == 0) ≡ true → n ≡ 0
is_none n h = grind (arith, nat_tests)

pub is_some : (n : ℕ) → (n == 0) ≡ false → 0 < n
is_some n h = grind (arith, nat_tests)

pub squeezed_same : (cs : List ℕ) → has_no_space cs ≡ true → squeezed cs ≡ cs
squeezed_same [] h = refl
squeezed_same (c ∷ cs) h =
    let p = and_parts (not (is_space c)) (has_no_space cs) h in
    rw p.0 (ap (λ (ds : List ℕ). c ∷ ds) (squeezed_same cs p.1))
