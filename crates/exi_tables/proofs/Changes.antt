-- A list with one item changed, and a look-up in a list of what is seen of its items.
use Rattle.std.proofs.Common.{◌≡◌, ℕ, zero, suc, ◌<◌, ◌+◌, Bool, not, cond, List, [], ◌∷◌, map, length, set, get_or, refl, ap, arith}
use Rattle.std.specs.Prelude.{position}
use Rattle.std.specs.List.{prefix_len}
use Rattle.std.proofs.lemmas.List.{length-map}
use Rattle.exi_tables.specs.Values.{changed_at}

pub set-changed_at : {X : Type 0} (f : X → X) (xs : List X) (i : ℕ) (n : X) → i < length xs → n ≡ get_or xs i n → set xs i (f n) ≡ changed_at xs i f
set-changed_at f [] i n h e = absurd (omega (arith, h))
set-changed_at f (x ∷ xs) zero n h e = ap (λ y. f y ∷ xs) e
set-changed_at f (x ∷ xs) (suc i) n h e =
    let within : i < length xs = omega (arith, h) in ap (λ ys. x ∷ ys) (set-changed_at f xs i n within e)

pub prefix_len-map : {X Y : Type 0} (p : Y → Bool) (f : X → Y) (xs : List X) → prefix_len p (map f xs) ≡ prefix_len (λ x. p (f x)) xs
prefix_len-map p f [] = refl
prefix_len-map p f (x ∷ xs) = ap (λ n. cond (p (f x)) (1 + n) 0) (prefix_len-map p f xs)

pub position-map : {X Y : Type 0} (p : Y → Bool) (f : X → Y) (xs : List X) → position p (map f xs) ≡ position (λ x. p (f x)) xs
position-map p f xs =
    let len : prefix_len (λ y. not (p y)) (map f xs) ≡ prefix_len (λ x. not (p (f x))) xs = prefix_len-map (λ y. not (p y)) f xs in
    rw (len, length-map) refl

pub within-map : {X Y : Type 0} (f : X → Y) (xs : List X) (i : ℕ) → i < length (map f xs) → i < length xs
within-map f xs i h = rw length-map at h
