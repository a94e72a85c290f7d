-- Counting of what has a name, seen and not.
use Rattle.std.proofs.Common.{◌≡◌, ◌<◌, ◌≤◌, ◌+◌, ℕ, zero, suc, Bool, true, false, cond, List, [], ◌∷◌, drop, filter, get_or, length, map, refl, ap, ◌∙◌, arith}
use Rattle.std.proofs.lemmas.List.{drop_all, drop_more}

-- of what is seen as something, as many pass as of what it is seen as
one_more : {X Y : Type 0} (a b : Bool) (x : X) (y : Y) (xs : List X) (ys : List Y) → a ≡ b → length xs ≡ length ys → length (cond a (x ∷ xs) xs) ≡ length (cond b (y ∷ ys) ys)
one_more true true x y xs ys e same = ap suc same
one_more false false x y xs ys e same = same
one_more true false x y xs ys e same = absurd cc
one_more false true x y xs ys e same = absurd cc

pub seen_same : {X Y : Type 0} (see : X → Y) (test : Y → Bool) (own : X → Bool) → ((x : X) → own x ≡ test (see x)) → (xs : List X) → length (filter own xs) ≡ length (filter test (map see xs))
seen_same see test own same [] = refl
seen_same see test own same (x ∷ xs) = one_more (own x) (test (see x)) x (see x) (filter own xs) (filter test (map see xs)) (same x) (seen_same see test own same xs)

pub named_same : {X Y : Type 0} (see : X → Y) (test : Y → Bool) (own : X → Bool) → ((x : X) → own x ≡ test (see x)) → (n : ℕ) (xs : List X) → length (filter own (drop n xs)) ≡ length (filter test (drop n (map see xs)))
named_same see test own same zero xs = seen_same see test own same xs
named_same see test own same (suc n) [] = refl
named_same see test own same (suc n) (x ∷ xs) = named_same see test own same n xs

-- ---- one after another
-- no more pass than there are
pub few_pass : {X : Type 0} (test : X → Bool) (xs : List X) → length (filter test xs) ≤ length xs
few_pass test [] = omega arith
few_pass test (x ∷ xs) = few_more (test x) x xs (filter test xs) (few_pass test xs)
  where
    few_more : {X : Type 0} (b : Bool) (x : X) (xs some : List X) → length some ≤ length xs → length (cond b (x ∷ some) some) ≤ length (x ∷ xs)
    few_more true x xs some le = omega (arith, le)
    few_more false x xs some le = omega (arith, le)

pub passed_yes : {X : Type 0} (test : X → Bool) (d : X) (xs : List X) (n k all : ℕ) → k < length xs → test (get_or xs k d) ≡ true → n + length (filter test (drop k xs)) ≡ all → n + 1 + length (filter test (drop (k + 1) xs)) ≡ all
passed_yes test d xs n k all less passes e =
    let first : length (filter test (drop k xs)) ≡ suc (length (filter test (drop (k + 1) xs))) = ap (λ l. length (filter test l)) (drop_more xs k d less) ∙ ap (λ b. length (cond b (get_or xs k d ∷ filter test (drop (k + 1) xs)) (filter test (drop (k + 1) xs)))) passes in
    omega (arith, first, e)

pub passed_no : {X : Type 0} (test : X → Bool) (d : X) (xs : List X) (n k all : ℕ) → k < length xs → test (get_or xs k d) ≡ false → n + length (filter test (drop k xs)) ≡ all → n + length (filter test (drop (k + 1) xs)) ≡ all
passed_no test d xs n k all less fails e =
    let first : length (filter test (drop k xs)) ≡ length (filter test (drop (k + 1) xs)) = ap (λ l. length (filter test l)) (drop_more xs k d less) ∙ ap (λ b. length (cond b (get_or xs k d ∷ filter test (drop (k + 1) xs)) (filter test (drop (k + 1) xs)))) fails in
    omega (arith, first, e)

pub passed_all : {X : Type 0} (test : X → Bool) (xs : List X) (n k all : ℕ) → length xs ≤ k → n + length (filter test (drop k xs)) ≡ all → n ≡ all
passed_all test xs n k all le e =
    let none : length (filter test (drop k xs)) ≡ 0 = ap (λ l. length (filter test l)) (drop_all k xs le) in
    omega (arith, none, e)
