-- Bytes in pieces.
use Rattle.std.proofs.Common.{◌≡◌, ℕ, zero, suc, ◌<◌, List, [], ◌∷◌, ◌++◌, length, take, drop, map, Some, None, if◌then◌else◌, ap, ◌∙◌, sym, refl, arith, append_assoc, length-append, ◌==◌, ne_eqb, Bor, Option, MatchOption, option_copied}
use Rattle.std.proofs.lemmas.Bool.{le-leb, lt-leb}
use Rattle.std.proofs.lemmas.List.{append-nil, map-append, nil_from_length}
use Rattle.exi_pool.specs.Pages.{Sheet, before, bytes_of, chain}
use Rattle.exi_tape.specs.Rolls.{backwards, content}
use Rattle.exi_tape.specs.Reading.{bytes_at}

pub take_front : {A : Type 0} (xs ys : List A) → take (length xs) (xs ++ ys) ≡ xs
take_front [] ys = refl
take_front (x ∷ xs) ys = ap (λ l. x ∷ l) (take_front xs ys)

pub drop_front : {A : Type 0} (xs ys : List A) → drop (length xs) (xs ++ ys) ≡ ys
drop_front [] ys = refl
drop_front (x ∷ xs) ys = drop_front xs ys

bytes_front : (xs ys : List ℕ) → bytes_at (length xs) (xs ++ ys) ≡ Some (xs, ys)
unfolding bytes_at
bytes_front xs ys =
    let all : List ℕ = xs ++ ys in
    let fits = le-leb (length xs) (length all) (omega (arith, length-append xs ys)) in
    ap (λ b. if b then Some (take (length xs) all, drop (length xs) all) else None) fits
    ∙ ap (λ l. Some (l, drop (length xs) all)) (take_front xs ys) ∙ ap (λ l. Some (xs, l)) (drop_front xs ys)

-- so many bytes, and those after them
pub bytes_are : (n : ℕ) (xs ys bs : List ℕ) → xs ++ ys ≡ bs → length xs ≡ n → bytes_at n bs ≡ Some (xs, ys)
bytes_are n xs ys bs is long = ap (λ b. bytes_at n b) (sym is) ∙ ap (λ k. bytes_at k (xs ++ ys)) (sym long) ∙ bytes_front xs ys

pub bytes_cut : (n : ℕ) (xs ys bs : List ℕ) → xs ++ ys ≡ bs → ys ≡ [] → length xs < n → bytes_at n bs ≡ None
unfolding bytes_at
bytes_cut n xs ys bs is none few =
    let short : length bs < n = omega (arith, ap length is, length-append xs ys, ap length none) in
    ap (λ b. if b then Some (take n bs, drop n bs) else None) (lt-leb n (length bs) short)

-- the last of some pieces comes first
pub backwards_push : (ps : List (List ℕ)) (p : List ℕ) → backwards (ps ++ p ∷ []) ≡ p ++ backwards ps
backwards_push [] p = sym (append-nil p)
backwards_push (q ∷ qs) p = ap (λ l. l ++ q) (backwards_push qs p) ∙ append_assoc p (backwards qs) q

-- where nothing is left of the first piece, the next one is turned to
pub turned : {A : Type 0} (f : A → List ℕ) (rest : List ℕ) (all xs : List A) (p : A) → length rest ≡ 0 → all ≡ xs ++ p ∷ [] → f p ++ backwards (map f xs) ≡ rest ++ backwards (map f all)
turned f rest all xs p none is =
    sym (ap (λ l. l ++ backwards (map f all)) (nil_from_length rest none) ∙ ap (λ l. backwards (map f l)) is ∙ ap backwards (map-append f xs (p ∷ [])) ∙ backwards_push (map f xs) (f p))

-- a page after those before it
pub content_is : (p : List Sheet) (used : ℕ) → content p used ≡ content (before p) 4096 ++ take used (bytes_of p)
content_is [] zero = refl
content_is [] (suc n) = refl
content_is (s ∷ ss) used = refl

pub walked : {A : Type 0} (f : A → List ℕ) (p q : List Sheet) (used : ℕ) (piece : A) (xs ys : List A) (all : List ℕ) → q ≡ before p → f piece ≡ take used (bytes_of p) → ys ≡ xs ++ piece ∷ []
    → content p used ++ backwards (map f xs) ≡ all → content q 4096 ++ backwards (map f ys) ≡ all
walked f p q used piece xs ys all next is grown so =
    let c : List ℕ = content (before p) 4096 in
    ap (λ l. content l 4096 ++ backwards (map f ys)) next ∙ ap (λ l. c ++ backwards (map f l)) grown ∙ ap (λ l. c ++ backwards l) (map-append f xs (piece ∷ []))
    ∙ ap (λ l. c ++ l) (backwards_push (map f xs) (f piece) ∙ ap (λ l. l ++ backwards (map f xs)) is)
    ∙ sym (append_assoc c (take used (bytes_of p)) (backwards (map f xs))) ∙ ap (λ l. l ++ backwards (map f xs)) (sym (content_is p used)) ∙ so

-- nothing is left exactly where nothing is left of the piece that was turned to
pub over_is : (rest all old later : List ℕ) → all ≡ rest ++ later → all ≡ old → (length rest ≡ 0 → all ≡ []) → (length rest == 0) ≡ (length old == 0)
over_is [] all old later parts same none = ap (λ l. length l == 0) (sym (none refl) ∙ same)
over_is (x ∷ xs) all old later parts same none =
    ne_eqb (length (x ∷ xs)) 0 (λ e. absurd (omega arith)) ∙ sym (ne_eqb (length old) 0 (λ e. absurd (omega (arith, e, ap length same, ap length parts, length-append (x ∷ xs) later))))

-- a front of what is left joins the pieces
pub gathered : (pieces front back later rest all more : List ℕ) → more ≡ pieces ++ front → rest ≡ front ++ back → pieces ++ (rest ++ later) ≡ all → more ++ (back ++ later) ≡ all
gathered pieces front back later rest all more grown parts so =
    ap (λ l. l ++ (back ++ later)) grown ∙ append_assoc pieces front (back ++ later) ∙ ap (λ l. pieces ++ l) (sym (append_assoc front back later) ∙ ap (λ l. l ++ later) (sym parts)) ∙ so

-- the pages before one that is lent
pub chained : (r : Option (Bor (List Sheet))) (b : List Sheet) → MatchOption r (b ≡ []) (λ p. b ≡ p.now) → chain (option_copied r) ≡ b
chained None b h = sym h
chained (Some p) b h = sym h
