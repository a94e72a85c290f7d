-- How long lists and sizes are.
use Rattle.std.proofs.Common.{◌≡◌, ℕ, ◌+◌, ◌-◌, ◌≤◌, ◌^◌, List, [], ◌∷◌, length, map, drop, ap, ◌∙◌, sym, refl, subst, arith, length-append}
use Rattle.std.proofs.Math.Nat.{min-eq_left}
use Rattle.std.proofs.lemmas.List.{drop_all}
use Rattle.exi_tape.specs.Sound.{SoundValues}
use Rattle.exi_names.specs.Seen.{Value, values_of, no_more}
use Rattle.exi_tape.specs.Spelling.{count_of, list_spelled, number_spelled, values_spelled}
use Rattle.exi_tape.specs.Rolls.{capped}

pub counted : {A : Type 0} (f : A → Value) (xs : List A) → count_of (values_of (map f xs)) ≡ length xs
counted f [] = refl
counted f (x ∷ xs) = omega (arith, counted f xs)

-- the size of a list before its values
pub list_begins : {A : Type 0} (f : A → Value) (xs : List A) (n size : ℕ) → n ≡ length xs → size ≡ length (number_spelled n)
    → capped (size + length (values_spelled (values_of (map f xs)))) ≡ capped (length (list_spelled (values_of (map f xs))))
list_begins f xs n size is e =
    let count : n ≡ count_of (values_of (map f xs)) = is ∙ sym (counted f xs) in
    let first : size ≡ length (number_spelled (count_of (values_of (map f xs)))) = e ∙ ap (λ k. length (number_spelled k)) count in
    ap (λ k. capped k) (omega (arith, first, length-append (number_spelled (count_of (values_of (map f xs)))) (values_spelled (values_of (map f xs)))))

-- no value is left
none_left : {A : Type 0} (f : A → Value) (xs : List A) (i : ℕ) → length xs ≤ i → values_of (map f (drop i xs)) ≡ no_more
none_left f xs i over = ap (λ l. values_of (map f l)) (drop_all i xs over)

spelled_none : length (values_spelled no_more) ≡ 0
unfolding values_spelled
spelled_none = refl

pub list_ends : {A : Type 0} (f : A → Value) (xs : List A) (i size all : ℕ) → length xs ≤ i → size ≤ 2 ^ 64 - 1 → capped (size + length (values_spelled (values_of (map f (drop i xs))))) ≡ all → size ≡ all
list_ends f xs i size all over few is =
    let none : length (values_spelled (values_of (map f (drop i xs)))) ≡ 0 = ap (λ w. length (values_spelled w)) (none_left f xs i over) ∙ spelled_none in
    let same : size + length (values_spelled (values_of (map f (drop i xs)))) ≡ size = omega arith in
    sym (min-eq_left few) ∙ ap (λ k. capped k) (sym same) ∙ is

pub sound_ends : {A : Type 0} {B : Type 0} (f : A → Value) (xs : List A) (i : ℕ) → length xs ≤ i → (SoundValues (values_of (map f (drop i xs))) → B) → B
sound_ends f xs i over g = g (subst (λ w. SoundValues w) (sym (none_left f xs i over)) tt)
