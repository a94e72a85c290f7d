-- The places of names that come first, one after another.
use Rattle.std.proofs.Common.{◌≡◌, ℕ, suc, ◌+◌, ◌<◌, ◌≤◌, Bool, true, false, cond, not, ◌||◌, List, [], ◌∷◌, ◌++◌, drop, get_or, length, All, refl, sym, ap, ◌∙◌, arith, append_assoc}
use Rattle.std.specs.List.{list_any}
use Rattle.std.proofs.lemmas.List.{append-nil, drop_all, drop_more}
use Rattle.std.proofs.lemmas.List.Elements.{All-cons, All-nil}
use Rattle.std.proofs.lemmas.List.Folds.{list_any-append}
use Rattle.xsd_model.specs.declared.parts.ElementDecl.{ElementDecl}
use Rattle.exi_vocabulary.specs.Vocabulary.{Pair, firsts_from, global_places_from, is_pair_among, same_pair}

abbrev pub any_pair : Pair → List Pair → Bool
any_pair n ns = list_any (same_pair n) ns

pub pair_among : (n : Pair) (ns : List Pair) → is_pair_among n ns ≡ any_pair n ns
pair_among n [] = refl
pair_among n (m ∷ ms) = ap (λ b. same_pair n m || b) (pair_among n ms)

-- what is seen tells by what is among it alone
firsts_alike : (a b : List Pair) (place : ℕ) (ns : List Pair) → ((m : Pair) → any_pair m a ≡ any_pair m b) → firsts_from a place ns ≡ firsts_from b place ns
firsts_alike a b place [] e = refl
firsts_alike a b place (n ∷ ns) e =
    ap (λ x. cond x (firsts_from a (suc place) ns) (place ∷ firsts_from (n ∷ a) (suc place) ns)) (pair_among n a ∙ e n ∙ sym (pair_among n b))
    ∙ ap (λ l. cond (is_pair_among n b) l (place ∷ firsts_from (n ∷ a) (suc place) ns)) (firsts_alike a b (suc place) ns e)
    ∙ ap (λ l. cond (is_pair_among n b) (firsts_from b (suc place) ns) (place ∷ l)) (firsts_alike (n ∷ a) (n ∷ b) (suc place) ns (λ m. ap (λ x. same_pair m n || x) (e m)))

last_first : (a b : Bool) → (a || (b || false)) ≡ (b || a)
last_first true true = refl
last_first true false = refl
last_first false true = refl
last_first false false = refl

at_end : (seen : List Pair) (n m : Pair) → any_pair m (seen ++ n ∷ []) ≡ any_pair m (n ∷ seen)
at_end seen n m = list_any-append (same_pair m) seen (n ∷ []) ∙ last_first (any_pair m seen) (same_pair m n)

abbrev pub goes_on : List ℕ → List Pair → ℕ → List Pair → List ℕ
goes_on done seen place rest = done ++ firsts_from seen place rest

first_known : (done : List ℕ) (seen : List Pair) (place : ℕ) (n : Pair) (rest : List Pair) → any_pair n seen ≡ true → goes_on done seen place (n ∷ rest) ≡ goes_on done seen (place + 1) rest
first_known done seen place n rest e =
    let next : suc place ≡ place + 1 = omega arith in
    ap (λ b. done ++ cond b (firsts_from seen (suc place) rest) (place ∷ firsts_from (n ∷ seen) (suc place) rest)) (pair_among n seen ∙ e)
    ∙ ap (λ i. done ++ firsts_from seen i rest) next

first_new : (done : List ℕ) (seen : List Pair) (place : ℕ) (n : Pair) (rest : List Pair) → any_pair n seen ≡ false → goes_on done seen place (n ∷ rest) ≡ goes_on (done ++ place ∷ []) (seen ++ n ∷ []) (place + 1) rest
first_new done seen place n rest e =
    let next : suc place ≡ place + 1 = omega arith in
    ap (λ b. done ++ cond b (firsts_from seen (suc place) rest) (place ∷ firsts_from (n ∷ seen) (suc place) rest)) (pair_among n seen ∙ e)
    ∙ ap (λ i. done ++ place ∷ firsts_from (n ∷ seen) i rest) next
    ∙ ap (λ l. done ++ place ∷ l) (sym (firsts_alike (seen ++ n ∷ []) (n ∷ seen) (place + 1) rest (at_end seen n)))
    ∙ sym (append_assoc done (place ∷ []) (firsts_from (seen ++ n ∷ []) (place + 1) rest))

pub of_not : (a b : Bool) → not a ≡ not b → a ≡ b
of_not true true e = refl
of_not true false e = absurd cc
of_not false true e = absurd cc
of_not false false e = refl

-- ---- for the loop
pub passed : (done : List ℕ) (seen names : List Pair) (i : ℕ) (n d : Pair) (all : List ℕ) → i < length names → n ≡ get_or names i d → any_pair n seen ≡ true → goes_on done seen i (drop i names) ≡ all → goes_on done seen (i + 1) (drop (i + 1) names) ≡ all
passed done seen names i n d all less is e h =
    sym (first_known done seen i n (drop (i + 1) names) e)
    ∙ ap (λ m. goes_on done seen i (m ∷ drop (i + 1) names)) is
    ∙ ap (goes_on done seen i) (sym (drop_more names i d less))
    ∙ h

pub found : (done : List ℕ) (seen names : List Pair) (i : ℕ) (n d : Pair) (all : List ℕ) → i < length names → n ≡ get_or names i d → any_pair n seen ≡ false → goes_on done seen i (drop i names) ≡ all → goes_on (done ++ i ∷ []) (seen ++ n ∷ []) (i + 1) (drop (i + 1) names) ≡ all
found done seen names i n d all less is e h =
    sym (first_new done seen i n (drop (i + 1) names) e)
    ∙ ap (λ m. goes_on done seen i (m ∷ drop (i + 1) names)) is
    ∙ ap (goes_on done seen i) (sym (drop_more names i d less))
    ∙ h

pub ended : (done : List ℕ) (seen names : List Pair) (i : ℕ) (all : List ℕ) → length names ≤ i → goes_on done seen i (drop i names) ≡ all → done ≡ all
ended done seen names i all le h =
    sym (append-nil done) ∙ ap (goes_on done seen i) (sym (drop_all i names le)) ∙ h

-- ---- all are places of the names
within_from : (seen : List Pair) (place : ℕ) (ns : List Pair) (most : ℕ) → place + length ns ≤ most → All (λ p. p < most) (firsts_from seen place ns)
within_from seen place [] most le = All-nil (λ p. p < most)
within_from seen place (n ∷ ns) most le =
    let more : suc place + length ns ≤ most = (let e : place + suc (length ns) ≤ most = le in omega (arith, e)) in
    let here : place < most = (let e : place + suc (length ns) ≤ most = le in omega (arith, e)) in
    by (is_pair_among n seen) here (within_from seen (suc place) ns most more) (within_from (n ∷ seen) (suc place) ns most more)
  where
    by : (b : Bool) → place < most → All (λ p. p < most) (firsts_from seen (suc place) ns) → All (λ p. p < most) (firsts_from (n ∷ seen) (suc place) ns) → All (λ p. p < most) (cond b (firsts_from seen (suc place) ns) (place ∷ firsts_from (n ∷ seen) (suc place) ns))
    by true h e f = e
    by false h e f = All-cons (λ p. p < most) place (firsts_from (n ∷ seen) (suc place) ns) h f

pub firsts_within : (ns : List Pair) (most : ℕ) → length ns ≤ most → All (λ p. p < most) (firsts_from [] 0 ns)
firsts_within ns most le = within_from [] 0 ns most (omega (arith, le))

few_from : (seen : List Pair) (place : ℕ) (ns : List Pair) → length (firsts_from seen place ns) ≤ length ns
few_from seen place [] = omega arith
few_from seen place (n ∷ ns) = by (is_pair_among n seen) (few_from seen (suc place) ns) (few_from (n ∷ seen) (suc place) ns)
  where
    by : (b : Bool) → length (firsts_from seen (suc place) ns) ≤ length ns → length (firsts_from (n ∷ seen) (suc place) ns) ≤ length ns → length (cond b (firsts_from seen (suc place) ns) (place ∷ firsts_from (n ∷ seen) (suc place) ns)) ≤ suc (length ns)
    by true e f = omega (arith, e)
    by false e f = omega (arith, f)

pub few_firsts : (ns : List Pair) → length (firsts_from [] 0 ns) ≤ length ns
few_firsts ns = few_from [] 0 ns

-- ---- the global elements
abbrev pub globals_on : List ℕ → ℕ → List ElementDecl → List ℕ
globals_on done place rest = done ++ global_places_from place rest

pub global_found : (done : List ℕ) (es : List ElementDecl) (i : ℕ) (d : ElementDecl) (all : List ℕ) → i < length es → (get_or es i d).global ≡ true → globals_on done i (drop i es) ≡ all → globals_on (done ++ i ∷ []) (i + 1) (drop (i + 1) es) ≡ all
global_found done es i d all less e h =
    let next : i + 1 ≡ suc i = omega arith in
    let rest = drop (i + 1) es in
    append_assoc done (i ∷ []) (global_places_from (i + 1) rest)
    ∙ ap (λ k. done ++ i ∷ global_places_from k rest) next
    ∙ ap (λ b. done ++ cond b (i ∷ global_places_from (suc i) rest) (global_places_from (suc i) rest)) (sym e)
    ∙ ap (globals_on done i) (sym (drop_more es i d less))
    ∙ h

pub global_passed : (done : List ℕ) (es : List ElementDecl) (i : ℕ) (d : ElementDecl) (all : List ℕ) → i < length es → (get_or es i d).global ≡ false → globals_on done i (drop i es) ≡ all → globals_on done (i + 1) (drop (i + 1) es) ≡ all
global_passed done es i d all less e h =
    let next : i + 1 ≡ suc i = omega arith in
    let rest = drop (i + 1) es in
    ap (λ k. done ++ global_places_from k rest) next
    ∙ ap (λ b. done ++ cond b (i ∷ global_places_from (suc i) rest) (global_places_from (suc i) rest)) (sym e)
    ∙ ap (globals_on done i) (sym (drop_more es i d less))
    ∙ h

pub globals_ended : (done : List ℕ) (es : List ElementDecl) (i : ℕ) (all : List ℕ) → length es ≤ i → globals_on done i (drop i es) ≡ all → done ≡ all
globals_ended done es i all le h = sym (append-nil done) ∙ ap (globals_on done i) (sym (drop_all i es le)) ∙ h

globals_below : (place : ℕ) (es : List ElementDecl) (most : ℕ) → place + length es ≤ most → All (λ p. p < most) (global_places_from place es)
globals_below place [] most le = All-nil (λ p. p < most)
globals_below place (x ∷ xs) most le =
    let e : place + suc (length xs) ≤ most = le in
    let more : suc place + length xs ≤ most = omega (arith, e) in
    let here : place < most = omega (arith, e) in
    by x.global here (globals_below (suc place) xs most more)
  where
    by : (b : Bool) → place < most → All (λ p. p < most) (global_places_from (suc place) xs) → All (λ p. p < most) (cond b (place ∷ global_places_from (suc place) xs) (global_places_from (suc place) xs))
    by true h f = All-cons (λ p. p < most) place (global_places_from (suc place) xs) h f
    by false h f = f

pub globals_within : (es : List ElementDecl) (most : ℕ) → length es ≤ most → All (λ p. p < most) (global_places_from 0 es)
globals_within es most le = globals_below 0 es most (omega (arith, le))

globals_few : (place : ℕ) (es : List ElementDecl) → length (global_places_from place es) ≤ length es
globals_few place [] = omega arith
globals_few place (x ∷ xs) = by x.global (globals_few (suc place) xs)
  where
    by : (b : Bool) → length (global_places_from (suc place) xs) ≤ length xs → length (cond b (place ∷ global_places_from (suc place) xs) (global_places_from (suc place) xs)) ≤ suc (length xs)
    by true e = omega (arith, e)
    by false e = omega (arith, e)

pub few_globals : (es : List ElementDecl) → length (global_places_from 0 es) ≤ length es
few_globals es = globals_few 0 es
