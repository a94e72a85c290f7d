-- Known bytes that grow or shrink in steps, and fronts of lists in steps.
use Rattle.std.proofs.Common.{◌≡◌, ℕ, ◌+◌, ◌-◌, ◌≤◌, ◌<◌, List, [], ◌++◌, length, take, drop, refl, sym, ap, ◌∙◌, arith, Option, Some, None, subst}
use Rattle.std.specs.Prelude.{IfSome}
use Rattle.std.specs.Io.KnownBytes.{Appends, Consumes, Keeps, IsAtEnd}
use Rattle.std.proofs.lemmas.List.{append-nil, append_assoc, take-append-drop, length-take-le, length-append, length-drop, take_all}
use Rattle.std.proofs.Math.Seq.{take-append-add}

-- a longer front is a front and then a front of the rest
pub take-add : (n m : ℕ) (xs : List ℕ) → n ≤ length xs → take (n + m) xs ≡ take n xs ++ take m (drop n xs)
take-add n m xs le =
    let long : length (take n xs) ≡ n = length-take-le n xs le in
    let whole : take n xs ++ drop n xs ≡ xs = take-append-drop n xs in
    ap (λ (t : List ℕ). take (n + m) t) (sym whole)
    ∙ ap (λ (k : ℕ). take (k + m) (take n xs ++ drop n xs)) (sym long)
    ∙ take-append-add (take n xs) (drop n xs) m

pub appends_none : (a : Option (List ℕ)) → Appends a a []
appends_none None = tt
appends_none (Some xs) = sym (append-nil xs)

pub appends_more : (a b c : Option (List ℕ)) (xs ys : List ℕ) → Appends a b xs → Appends b c ys → Appends a c (xs ++ ys)
appends_more None b c xs ys p q = tt
appends_more (Some ks) None c xs ys p q = elim p [ ]
appends_more (Some ks) (Some bs) None xs ys p q = elim q [ ]
appends_more (Some ks) (Some bs) (Some cs) xs ys p q = q ∙ ap (λ (t : List ℕ). t ++ ys) p ∙ append_assoc ks xs ys

pub consumes_none : (a : Option (List ℕ)) → Consumes a a []
consumes_none None = tt
consumes_none (Some xs) = refl

pub consumes_more : (a b c : Option (List ℕ)) (xs ys : List ℕ) → Consumes a b xs → Consumes b c ys → Consumes a c (xs ++ ys)
consumes_more None b c xs ys p q = tt
consumes_more (Some ks) None c xs ys p q = elim p [ ]
consumes_more (Some ks) (Some bs) None xs ys p q = elim q [ ]
consumes_more (Some ks) (Some bs) (Some cs) xs ys p q = p ∙ ap (λ (t : List ℕ). xs ++ t) q ∙ sym (append_assoc xs ys cs)

-- all was read
pub all_read : (old new : Option (List ℕ)) (all : List ℕ) → Consumes old new all → IsAtEnd new → Keeps old (Some all)
all_read None new all p q = tt
all_read (Some xs) None all p q = elim p [ ]
all_read (Some xs) (Some ys) all p q = sym (p ∙ ap (λ (t : List ℕ). all ++ t) q ∙ append-nil all)

-- more was read than was allowed
pub more_read : (old new : Option (List ℕ)) (all : List ℕ) (most : ℕ) → Consumes old new all → most < length all → IfSome old (λ bytes. most < length bytes)
more_read None new all most p q = tt
more_read (Some xs) None all most p q = elim p [ ]
more_read (Some xs) (Some ys) all most p q = let e : length xs ≡ length all + length ys = ap length p ∙ length-append all ys in omega arith

-- a write of the rest `xs[d..]` that took n bytes of it
pub run_more : (d n : ℕ) (xs : List ℕ) (a b c : Option (List ℕ)) → d ≤ length xs → n ≤ length (take (length xs - d) (drop d xs)) → Appends a b (take d xs) → Appends b c (take n (take (length xs - d) (drop d xs))) → (d + n ≤ length xs) × Appends a c (take (d + n) xs)
run_more d n xs a b c le within p q =
    let size : length (drop d xs) ≡ length xs - d = length-drop d xs in
    let at_most : length (drop d xs) ≤ length xs - d = omega (arith, size) in
    let whole : take (length xs - d) (drop d xs) ≡ drop d xs = take_all (length xs - d) (drop d xs) at_most in
    let inside : n ≤ length (drop d xs) = subst (λ (t : List ℕ). n ≤ length t) whole within in
    let more : Appends b c (take n (drop d xs)) = subst (λ (t : List ℕ). Appends b c (take n t)) whole q in
    let after : d + n ≤ length xs = omega (arith, inside, size, le) in
    (after, subst (λ (t : List ℕ). Appends a c t) (sym (take-add d n xs le)) (appends_more a b c (take d xs) (take n (drop d xs)) p more))
