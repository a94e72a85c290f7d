-- The places in order are places of the keys, and what stands at them is the list in order.
use Rattle.std.proofs.Common.{◌≡◌, ℕ, zero, suc, ◌+◌, ◌<◌, ◌≤◌, Bool, if◌then◌else◌, List, [], ◌∷◌, ◌++◌, get_or, length, map, reverse, All, refl, sym, ap, ◌∙◌, arith, append_assoc}
use Rattle.std.proofs.lemmas.List.{length_push}
use Rattle.std.proofs.lemmas.List.Elements.{All-cons, All-head, All-nil, All-tail}
use Rattle.std.proofs.lemmas.List.Sorted.{All-permutation}
use Rattle.exi_gram.specs.Laws.{places_from}
use Rattle.exi_gram.specs.Orders.{all_placed, in_order, pair_before, placed_among}
use Rattle.exi_order.specs.Sorting.{key_at, place_before, places_in_order}
use Rattle.exi_order.proofs.InOrder.{in_order-all, in_order-length, in_order-map, placed_among-permutes}

-- ---- two tests that agree at the elements give one order
placed-agree : {X : Type 0} (P : X → Type 0) (before after : X → X → Bool) → ((a b : X) → P a → P b → before a b ≡ after a b) → (x : X) (kept : List X) → P x → All P kept → placed_among before x kept ≡ placed_among after x kept
placed-agree P before after agree x [] p all = refl
placed-agree P before after agree x (y ∷ ys) p all =
    ap (λ b. if b then y ∷ placed_among before x ys else x ∷ y ∷ ys) (agree x y p (All-head P y ys all))
    ∙ ap (λ l. if after x y then y ∷ l else x ∷ y ∷ ys) (placed-agree P before after agree x ys p (All-tail P y ys all))

all-agree : {X : Type 0} (P : X → Type 0) (before after : X → X → Bool) → ((a b : X) → P a → P b → before a b ≡ after a b) → (kept xs : List X) → All P kept → All P xs → all_placed before kept xs ≡ all_placed after kept xs
all-agree P before after agree kept [] all rest = refl
all-agree P before after agree kept (x ∷ xs) all rest =
    all-agree P before after agree (placed_among before x kept) xs
    (All-permutation P (x ∷ kept) (placed_among before x kept) (placed_among-permutes before x kept) (All-cons P x kept (All-head P x xs rest) all))
    (All-tail P x xs rest)
    ∙ ap (λ l. all_placed after l xs) (placed-agree P before after agree x kept (All-head P x xs rest) all)

pub in_order-agree : {X : Type 0} (P : X → Type 0) (before after : X → X → Bool) → ((a b : X) → P a → P b → before a b ≡ after a b) → (xs : List X) → All P xs → in_order before xs ≡ in_order after xs
in_order-agree P before after agree xs all = ap reverse (all-agree P before after agree [] xs (All-nil P) all)

-- ---- places
pub places-length : {X : Type 0} (n : ℕ) (xs : List X) → length (places_from n xs) ≡ length xs
places-length n [] = refl
places-length n (x ∷ xs) = ap suc (places-length (suc n) xs)

places-below : {X : Type 0} (n : ℕ) (xs : List X) (m : ℕ) → n + length xs ≤ m → All (λ p. p < m) (places_from n xs)
places-below n [] m less = All-nil (λ p. p < m)
places-below n (x ∷ xs) m less =
    let e : n + suc (length xs) ≤ m = less in
    All-cons (λ p. p < m) n (places_from (suc n) xs) (omega (arith, e)) (places-below (suc n) xs m (omega (arith, e)))

pub places-within : {X : Type 0} (xs : List X) → All (λ p. p < length xs) (places_from 0 xs)
places-within xs = places-below 0 xs (length xs) (omega arith)

pub places-map : {X Y : Type 0} (f : X → Y) (n : ℕ) (xs : List X) → places_from n (map f xs) ≡ places_from n xs
places-map f n [] = refl
places-map f n (x ∷ xs) = ap (λ l. n ∷ l) (places-map f (suc n) xs)

-- what stands at each place in turn is the list
taken-from : {X : Type 0} (front xs all : List X) (d : X) → all ≡ front ++ xs → map (λ p. get_or all p d) (places_from (length front) xs) ≡ xs
taken-from front [] all d e = refl
taken-from front (x ∷ xs) all d e =
    let long : length (front ++ x ∷ []) ≡ suc (length front) = omega (arith, length_push front x) in
    let here : get_or all (length front) d ≡ x = ap (λ l. get_or l (length front) d) e ∙ at-front front x xs d in
    let rest : map (λ p. get_or all p d) (places_from (length (front ++ x ∷ [])) xs) ≡ xs = taken-from (front ++ x ∷ []) xs all d (e ∙ sym (append_assoc front (x ∷ []) xs)) in
    ap (λ y. y ∷ map (λ p. get_or all p d) (places_from (suc (length front)) xs)) here
    ∙ ap (λ l. x ∷ l) (ap (λ n. map (λ p. get_or all p d) (places_from n xs)) (sym long) ∙ rest)
  where
    at-front : {X : Type 0} (front : List X) (x : X) (xs : List X) (d : X) → get_or (front ++ x ∷ xs) (length front) d ≡ x
    at-front [] x xs d = refl
    at-front (y ∷ ys) x xs d = at-front ys x xs d

pub taken : {X : Type 0} (xs : List X) (d : X) → map (λ p. get_or xs p d) (places_from 0 xs) ≡ xs
taken xs d = taken-from [] xs xs d refl

pub key-at : {X : Type 0} (key : X → List ℕ × List ℕ) (xs : List X) (p : ℕ) (d : X) → p < length xs → key_at (map key xs) p ≡ key (get_or xs p d)
key-at key [] p d less = absurd (omega (arith, less))
key-at key (x ∷ xs) zero d less = refl
key-at key (x ∷ xs) (suc p) d less = key-at key xs p d (let e : suc p < suc (length xs) = less in omega (arith, e))

-- ---- the places in order
pub in_order-places-length : (keys : List (List ℕ × List ℕ)) → length (places_in_order keys) ≡ length keys
in_order-places-length keys = in_order-length (place_before keys) (places_from 0 keys) ∙ places-length 0 keys

pub in_order-places-within : (keys : List (List ℕ × List ℕ)) → All (λ p. p < length keys) (places_in_order keys)
in_order-places-within keys = in_order-all (λ p. p < length keys) (place_before keys) (places_from 0 keys) (places-within keys)

-- what stands at the places in order is the list in order
pub in_order-taken : {X : Type 0} (key : X → List ℕ × List ℕ) (xs : List X) (d : X) → map (λ p. get_or xs p d) (places_in_order (map key xs)) ≡ in_order (λ a b. pair_before (key a) (key b)) xs
in_order-taken {X} key xs d =
    let at : ℕ → X = λ p. get_or xs p d in
    let before : X → X → Bool = λ a b. pair_before (key a) (key b) in
    ap (λ l. map at (in_order (place_before (map key xs)) l)) (places-map key 0 xs)
    ∙ ap (map at) (in_order-agree (λ p. p < length xs) (place_before (map key xs)) (λ a b. before (at a) (at b)) (λ a b l m. ap (λ k. pair_before k (key_at (map key xs) b)) (key-at key xs a d l) ∙ ap (pair_before (key (at a))) (key-at key xs b d m)) (places_from 0 xs) (places-within xs))
    ∙ in_order-map at before (places_from 0 xs)
    ∙ ap (in_order before) (taken xs d)
