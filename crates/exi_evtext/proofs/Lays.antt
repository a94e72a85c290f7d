-- Texts laid in a room of bytes, one behind another.
use Rattle.std.proofs.Common.{◌≡◌, ◌≤◌, ◌+◌, ◌-◌, ◌*◌, ℕ, List, [], ◌∷◌, ◌++◌, length, take, drop, refl, sym, ap, ◌∙◌, inl, inr, arith, append_assoc, eqb}
use Rattle.std.specs.Prelude.{slice_range}
use Rattle.std.specs.List.{flat_map}
use Rattle.std.proofs.lemmas.Bool.{cases_Bool}
use Rattle.std.proofs.lemmas.List.{length-append, length-take-le, take-take, take_at, take-append-drop, take_rest, drop-take, drop_at}
use Rattle.std.proofs.lemmas.Grind.{flat_map-append}
use Rattle.exi_evtext.specs.Lines.{escaped}

-- ---- what stands for itself
one_byte : (b : ℕ) → 1 ≤ length (escaped b)
one_byte b = elim (cases_Bool (eqb b 34)) [
  | inl h ↦ rw h (omega arith)
  | inr h1 ↦ elim (cases_Bool (eqb b 92)) [
    | inl h ↦ rw (h1, h) (omega arith)
    | inr h2 ↦ elim (cases_Bool (eqb b 10)) [
      | inl h ↦ rw (h1, h2, h) (omega arith)
      | inr h3 ↦ elim (cases_Bool (eqb b 13)) [
        | inl h ↦ rw (h1, h2, h3, h) (omega arith)
        | inr h4 ↦ elim (cases_Bool (eqb b 9)) [
          | inl h ↦ rw (h1, h2, h3, h4, h) (omega arith)
          | inr h5 ↦ rw (h1, h2, h3, h4, h5) (omega arith)
        ]
      ]
    ]
  ]
]

no_shorter : (xs : List ℕ) → length xs ≤ length (flat_map escaped xs)
no_shorter [] = omega arith
no_shorter (b ∷ xs) = let more = no_shorter xs in let one = one_byte b in omega (arith, length-append (escaped b) (flat_map escaped xs))

-- the front of what stands for itself does so
plain_front : (xs ys : List ℕ) → flat_map escaped (xs ++ ys) ≡ xs ++ ys → flat_map escaped xs ≡ xs
plain_front xs ys h =
    let fx = flat_map escaped xs in
    let fy = flat_map escaped ys in
    let e : fx ++ fy ≡ xs ++ ys = sym (flat_map-append escaped xs ys) ∙ h in
    let x = no_shorter xs in
    let y = no_shorter ys in
    let both : length (fx ++ fy) ≡ length (xs ++ ys) = ap length e in
    let n : length fx ≡ length xs = omega (arith, length-append fx fy, length-append xs ys) in
    sym (take_at fx fy (length xs) n) ∙ ap (take (length xs)) e ∙ take_at xs ys (length xs) refl

pub plain_few : (n m : ℕ) (s : List ℕ) → n ≤ m → flat_map escaped (take m s) ≡ take m s → flat_map escaped (take n s) ≡ take n s
plain_few n m s le h =
    let front : take n (take m s) ≡ take n s = take-take n m s le in
    let whole = take-append-drop n (take m s) in
    let p = plain_front (take n (take m s)) (drop n (take m s)) (ap (flat_map escaped) whole ∙ h ∙ sym whole) in
    ap (flat_map escaped) (sym front) ∙ p ∙ front

pub take_add : (i n : ℕ) (s : List ℕ) → take (i + n) s ≡ take i s ++ take n (drop i s)
take_add i n s =
    sym (take-append-drop i (take (i + n) s))
    ∙ ap (λ (x : List ℕ). x ++ drop i (take (i + n) s)) (take-take i (i + n) s (omega arith))
    ∙ ap (λ (x : List ℕ). take i s ++ x) (drop-take i n s)

-- some more stand for themselves
pub plain_on : (i n : ℕ) (s : List ℕ) → flat_map escaped (take i s) ≡ take i s → flat_map escaped (slice_range s i (i + n)) ≡ slice_range s i (i + n) → flat_map escaped (take (i + n) s) ≡ take (i + n) s
plain_on i n s plain more =
    let width : (i + n) - i ≡ n = omega arith in
    let next : flat_map escaped (take n (drop i s)) ≡ take n (drop i s) = rw width at more in
    let split = take_add i n s in
    ap (flat_map escaped) split
    ∙ flat_map-append escaped (take i s) (take n (drop i s))
    ∙ ap (λ (x : List ℕ). x ++ flat_map escaped (take n (drop i s))) plain
    ∙ ap (λ (x : List ℕ). take i s ++ x) next
    ∙ sym split

-- a front and an end that reaches back to it, or into it
pub plain_whole : (n i : ℕ) (s : List ℕ) → n ≤ i → flat_map escaped (take i s) ≡ take i s → flat_map escaped (take (length s - n) (drop n s)) ≡ take (length s - n) (drop n s) → flat_map escaped s ≡ s
plain_whole n i s le front end =
    let rest : take (length s - n) (drop n s) ≡ drop n s = take_rest s n in
    let more : flat_map escaped (drop n s) ≡ drop n s = ap (flat_map escaped) (sym rest) ∙ end ∙ rest in
    let whole = take-append-drop n s in
    ap (flat_map escaped) (sym whole)
    ∙ flat_map-append escaped (take n s) (drop n s)
    ∙ ap (λ (x : List ℕ). x ++ flat_map escaped (drop n s)) (plain_few n i s le front)
    ∙ ap (λ (x : List ℕ). take n s ++ x) more
    ∙ whole

-- ---- what was laid
-- what was laid stands there
pub read_back : (at : ℕ) (old new bytes : List ℕ) → at ≤ length old → take (at + length bytes) new ≡ take at old ++ bytes → take (length bytes) (drop at new) ≡ bytes
read_back at old new bytes le laid = sym (drop-take at (length bytes) new) ∙ ap (drop at) laid ∙ drop_at (take at old) bytes at (length-take-le at old le)

take_in : (at n : ℕ) (xs ys : List ℕ) → length xs ≡ at → take (at + n) (xs ++ ys) ≡ xs ++ take n ys
take_in at n xs ys e =
    take_add at n (xs ++ ys)
    ∙ ap (λ (x : List ℕ). x ++ take n (drop at (xs ++ ys))) (take_at xs ys at e)
    ∙ ap (λ (x : List ℕ). xs ++ take n x) (drop_at xs ys at e)

-- a front and then an end that reaches back to it, or into it
pub both_ends : (at width : ℕ) (r0 r1 r2 bytes : List ℕ) → at + length bytes ≤ length r0 → width ≤ length bytes → length bytes ≤ 2 * width
    → take (at + width) r1 ≡ take at r0 ++ take width bytes → take (at + length bytes) r2 ≡ take (at + (length bytes - width)) r1 ++ drop (length bytes - width) bytes
    → take (at + length bytes) r2 ≡ take at r0 ++ bytes
both_ends at width r0 r1 r2 bytes room le most front end =
    let n = length bytes - width in
    let small : n ≤ width = omega arith in
    let one : take (at + n) r1 ≡ take at r0 ++ take n bytes =
    sym (take-take (at + n) (at + width) r1 (omega arith))
    ∙ ap (take (at + n)) front
    ∙ take_in at n (take at r0) (take width bytes) (length-take-le at r0 (omega arith))
    ∙ ap (λ (x : List ℕ). take at r0 ++ x) (take-take n width bytes small) in
    end
    ∙ ap (λ (x : List ℕ). x ++ drop n bytes) one
    ∙ append_assoc (take at r0) (take n bytes) (drop n bytes)
    ∙ ap (λ (x : List ℕ). take at r0 ++ x) (take-append-drop n bytes)

-- the first of the bytes that were laid
pub laid_front : (at n : ℕ) (old new bytes : List ℕ) → at ≤ length old → n ≤ length bytes → take (at + length bytes) new ≡ take at old ++ bytes → flat_map escaped (take n bytes) ≡ take n bytes
    → take (at + n) new ≡ take at old ++ flat_map escaped (take n bytes)
laid_front at n old new bytes le few laid stands =
    sym (take-take (at + n) (at + length bytes) new (omega (arith, few)))
    ∙ ap (take (at + n)) laid
    ∙ take_in at n (take at old) bytes (length-take-le at old le)
    ∙ ap (λ (x : List ℕ). take at old ++ x) (sym stands)
