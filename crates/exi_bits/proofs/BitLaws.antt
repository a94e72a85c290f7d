-- Laws of bits, and of the numbers that they spell.
use Rattle.std.proofs.Common.{◌≡◌, replicate, add-zero, ℕ, zero, suc, ◌+◌, ◌*◌, ◌-◌, ◌/◌, ◌%◌, ◌^◌, ◌<◌, ◌≤◌, Bool, true, false, List, [], ◌∷◌, ◌++◌, length, get_or, take, drop, refl, sym, ap, ◌∙◌, subst, append_assoc, arith, inl, inr}
use Rattle.std.proofs.lemmas.List.{length-append, length-take, length-drop, take-append-drop, take_at, drop_at, take_more, take-take, drop-drop, drop-take, append-nil, drop_all, drop_more, get_or-take, get_or-drop, get_or_past}
use Rattle.std.proofs.lemmas.Nat.{pow_pos, pow-add, shr_high, mod_low, shr_below, shl_below, mod_below, shr_split, shl-shr}
use Rattle.std.proofs.Math.Nat.{pow-succ', pow-le-pow_right}
use Rattle.std.proofs.lemmas.Bool.{cases_lt, le-leb, lt-leb}
use Rattle.exi_bits.specs.Bits.{number_bits, bits, value_of, le_value}

pub length-number_bits : (n v : ℕ) → length (number_bits n v) ≡ n
unfolding number_bits
length-number_bits zero v = refl
length-number_bits (suc n) v = ap suc (length-number_bits n (v % 2 ^ n))

pub length-bits : (bs : List ℕ) → length (bits bs) ≡ 8 * length bs
unfolding bits
length-bits [] = refl
length-bits (b ∷ bs) = omega (arith, length-append (number_bits 8 b) (bits bs), length-number_bits 8 b, length-bits bs)

pub value_of-append : (a b : List Bool) → value_of (a ++ b) ≡ value_of a * 2 ^ length b + value_of b
unfolding value_of
value_of-append [] b = omega arith
value_of-append (true ∷ a) b = rw (length-append a b, pow-add 2 (length a) (length b)) (omega (arith, value_of-append a b))
value_of-append (false ∷ a) b = omega (arith, value_of-append a b)

pub value_of_below : (a : List Bool) → value_of a < 2 ^ length a
unfolding value_of
value_of_below [] = omega arith
value_of_below (true ∷ a) = let h : value_of a < 2 ^ length a = value_of_below a in let e : 2 ^ suc (length a) ≡ 2 * 2 ^ length a = pow-succ' 2 (length a) in omega arith
value_of_below (false ∷ a) = let h : value_of a < 2 ^ length a = value_of_below a in let e : 2 ^ suc (length a) ≡ 2 * 2 ^ length a = pow-succ' 2 (length a) in omega arith

pub pow_up : (i j : ℕ) → i ≤ j → 2 ^ i ≤ 2 ^ j
pow_up i j le = pow-le-pow_right {n = 2} (omega arith) le

mod_small : (n v : ℕ) → v < 2 ^ n → v % 2 ^ n ≡ v
mod_small n v lt = let e : v ≡ 0 * 2 ^ n + v = omega arith in subst (λ (x : ℕ). x % 2 ^ n ≡ v) (sym e) (mod_low 0 n v lt)

mod_top : (n v : ℕ) → v < 2 ^ n → (2 ^ n + v) % 2 ^ n ≡ v
mod_top n v lt = let e : 2 ^ n + v ≡ 1 * 2 ^ n + v = omega arith in rw e (mod_low 1 n v lt)

at_top : (n v : ℕ) → v < 2 ^ n → value_of (number_bits n v) ≡ v → value_of (number_bits (suc n) (2 ^ n + v)) ≡ 2 ^ n + v
unfolding value_of number_bits
at_top n v lt h = rw (le-leb (2 ^ n) (2 ^ n + v) (omega arith), mod_top n v lt, length-number_bits n v, h) refl

at_low : (n v : ℕ) → v < 2 ^ n → value_of (number_bits n v) ≡ v → value_of (number_bits (suc n) v) ≡ v
unfolding value_of number_bits
at_low n v lt h = rw (lt-leb (2 ^ n) v lt, mod_small n v lt, h) (omega arith)

pub value_of-number_bits : (n v : ℕ) → v < 2 ^ n → value_of (number_bits n v) ≡ v
unfolding value_of number_bits
value_of-number_bits zero v lt = omega arith
value_of-number_bits (suc n) v lt =
    let e : 2 ^ suc n ≡ 2 * 2 ^ n = pow-succ' 2 n in
    elim (cases_lt v (2 ^ n)) [
      | inl low ↦ at_low n v low (value_of-number_bits n v low)
      | inr top ↦
          let w : ℕ = v - 2 ^ n in
          let v-is : v ≡ 2 ^ n + w = omega arith in
          let low : w < 2 ^ n = omega arith in
          subst (λ (x : ℕ). value_of (number_bits (suc n) x) ≡ x) (sym v-is) (at_top n w low (value_of-number_bits n w low))
    ]

pub number_bits-value_of : (a : List Bool) → number_bits (length a) (value_of a) ≡ a
unfolding value_of number_bits
number_bits-value_of [] = refl
number_bits-value_of (true ∷ a) = rw (le-leb (2 ^ length a) (2 ^ length a + value_of a) (omega arith), mod_top (length a) (value_of a) (value_of_below a), number_bits-value_of a) refl
number_bits-value_of (false ∷ a) = rw (lt-leb (2 ^ length a) (value_of a) (value_of_below a), mod_small (length a) (value_of a) (value_of_below a), number_bits-value_of a) refl

-- the bits in the middle
pub value_of-middle : (a m z : List Bool) → value_of (a ++ m ++ z) / 2 ^ length z % 2 ^ length m ≡ value_of m
value_of-middle a m z =
    rw (value_of-append (a ++ m) z, shr_high (value_of (a ++ m)) (length z) (value_of z) (value_of_below z), value_of-append a m, mod_low (value_of a) (length m) (value_of m) (value_of_below m)) refl

pub bits-append : (a b : List ℕ) → bits (a ++ b) ≡ bits a ++ bits b
unfolding bits
bits-append [] b = refl
bits-append (x ∷ a) b = ap (λ (t : List Bool). number_bits 8 x ++ t) (bits-append a b) ∙ sym (append_assoc (number_bits 8 x) (bits a) (bits b))

-- the bits at o of a list, by a shift and a mask
pub middle_of : (xs : List Bool) (o k r : ℕ) → o + k + r ≡ length xs → value_of xs / 2 ^ r % 2 ^ k ≡ value_of (take k (drop o xs))
middle_of xs o k r e =
    let m : List Bool = take k (drop o xs) in
    let z : List Bool = drop k (drop o xs) in
    let lm : length (take k (drop o xs)) ≡ k = omega (arith, length-take k (drop o xs), length-drop o xs) in
    let lz : length (drop k (drop o xs)) ≡ r = omega (arith, length-drop k (drop o xs), length-drop o xs) in
    let parts : xs ≡ take o xs ++ take k (drop o xs) ++ drop k (drop o xs) =
    sym (append_assoc (take o xs) m z ∙ ap (λ (t : List Bool). take o xs ++ t) (take-append-drop k (drop o xs)) ∙ take-append-drop o xs) in
    ap (λ (t : List Bool). value_of t / 2 ^ r % 2 ^ k) parts
    ∙ subst (λ (q : ℕ). value_of (take o xs ++ m ++ z) / 2 ^ q % 2 ^ k ≡ value_of m) lz
    (subst (λ (q : ℕ). value_of (take o xs ++ m ++ z) / 2 ^ length z % 2 ^ q ≡ value_of m) lm (value_of-middle (take o xs) m z))

pub bits_parts : (n : ℕ) (bs : List ℕ) → bits bs ≡ bits (take n bs) ++ bits (drop n bs)
bits_parts n bs = ap bits (sym (take-append-drop n bs)) ∙ bits-append (take n bs) (drop n bs)

pub bits-take : (n : ℕ) (bs : List ℕ) → n ≤ length bs → take (8 * n) (bits bs) ≡ bits (take n bs)
bits-take n bs le =
    ap (λ (t : List Bool). take (8 * n) t) (bits_parts n bs)
    ∙ take_at (bits (take n bs)) (bits (drop n bs)) (8 * n) (omega (arith, length-bits (take n bs), length-take n bs))

pub bits-drop : (n : ℕ) (bs : List ℕ) → n ≤ length bs → drop (8 * n) (bits bs) ≡ bits (drop n bs)
bits-drop n bs le =
    ap (λ (t : List Bool). drop (8 * n) t) (bits_parts n bs)
    ∙ drop_at (bits (take n bs)) (bits (drop n bs)) (8 * n) (omega (arith, length-bits (take n bs), length-take n bs))

pub one_byte : (b : ℕ) → bits (b ∷ []) ≡ number_bits 8 b
unfolding bits
one_byte b = append-nil (number_bits 8 b)

-- one byte more
pub gathered_more : (bs : List ℕ) (i : ℕ) → i < length bs → get_or bs i 0 < 256 → value_of (bits (take i bs)) * 256 + get_or bs i 0 ≡ value_of (bits (take (i + 1) bs))
gathered_more bs i lt fits =
    let b : ℕ = get_or bs i 0 in
    let one : bits (get_or bs i 0 ∷ []) ≡ number_bits 8 (get_or bs i 0) = one_byte b in
    sym (ap (λ (t : List ℕ). value_of (bits t)) (take_more bs i 0 lt)
    ∙ ap value_of (bits-append (take i bs) (get_or bs i 0 ∷ []))
    ∙ ap (λ (t : List Bool). value_of (bits (take i bs) ++ t)) one
    ∙ value_of-append (bits (take i bs)) (number_bits 8 b)
    ∙ rw (length-number_bits 8 b, value_of-number_bits 8 b fits) refl)

pub gathered_below : (bs : List ℕ) (n : ℕ) → length bs ≤ n → value_of (bits bs) < 2 ^ (8 * n)
gathered_below bs n le =
    let h : value_of (bits bs) < 2 ^ length (bits bs) = value_of_below (bits bs) in
    let p : 2 ^ length (bits bs) ≤ 2 ^ (8 * n) = pow-le-pow_right {n = 2} (omega arith) (omega (arith, length-bits bs)) in
    omega arith

-- a number at a bit, from the bytes in which it lies
pub number_in_bytes : (bs : List ℕ) (place width : ℕ) → place + width ≤ 8 * length bs →
    value_of (bits (take ((place + width + 7) / 8 - place / 8) (drop (place / 8) bs))) / 2 ^ ((place + width + 7) / 8 * 8 - (place + width)) % 2 ^ width ≡ value_of (take width (drop place (bits bs)))
number_in_bytes bs place width le =
    let f : ℕ = place / 8 in
    let n : ℕ = (place + width + 7) / 8 - place / 8 in
    let r : ℕ = (place + width + 7) / 8 * 8 - (place + width) in
    let o : ℕ = place % 8 in
    let inside : bits (take n (drop f bs)) ≡ take (8 * n) (drop (8 * f) (bits bs)) =
    sym (ap (λ (t : List Bool). take (8 * n) t) (bits-drop f bs (omega arith)) ∙ bits-take n (drop f bs) (omega (arith, length-drop f bs))) in
    let len : place % 8 + width + r ≡ length (bits (take n (drop f bs))) = omega (arith, length-bits (take n (drop f bs)), length-take n (drop f bs), length-drop f bs) in
    let e : 8 * n ≡ o + (width + r) = omega arith in
    let spot : 8 * f + o ≡ place = omega arith in
    middle_of (bits (take n (drop f bs))) o width r len
    ∙ ap (λ (t : List Bool). value_of (take width (drop o t))) (inside ∙ ap (λ (q : ℕ). take q (drop (8 * f) (bits bs))) e)
    ∙ ap (λ (t : List Bool). value_of (take width t)) (drop-take o (width + r) (drop (8 * f) (bits bs)))
    ∙ ap value_of (take-take width (width + r) (drop o (drop (8 * f) (bits bs))) (omega arith))
    ∙ ap (λ (t : List Bool). value_of (take width t)) (drop-drop o (8 * f) (bits bs) ∙ ap (λ (q : ℕ). drop q (bits bs)) spot)

eight_more : (n : ℕ) → 8 * suc n ≡ 8 + 8 * n
eight_more n = omega arith

-- bytes, the least significant first
pub back_none : (bs : List ℕ) → 0 ≡ le_value (drop (length bs - 0) bs)
unfolding le_value
back_none bs = sym (ap le_value (drop_all (length bs - 0) bs (omega arith)))

pub back_more : (bs : List ℕ) (k : ℕ) → k < length bs → le_value (drop (length bs - k) bs) * 256 + get_or bs (length bs - 1 - k) 0 ≡ le_value (drop (length bs - (k + 1)) bs)
unfolding le_value
back_more bs k lt =
    let i : ℕ = length bs - (k + 1) in
    let e : length bs - k ≡ i + 1 = omega arith in
    let f : length bs - 1 - k ≡ i = omega arith in
    let step : le_value (drop i bs) ≡ get_or bs i 0 + 256 * le_value (drop (i + 1) bs) = ap le_value (drop_more bs i 0 (omega arith)) in
    rw (e, f, step) (omega arith)

pub le_value_below : (bs : List ℕ) → ((i : ℕ) → get_or bs i 0 < 256) → le_value bs < 2 ^ (8 * length bs)
unfolding le_value
le_value_below [] fits = omega arith
le_value_below (b ∷ bs) fits =
    let h : le_value bs < 2 ^ (8 * length bs) = le_value_below bs (λ i. fits (suc i)) in
    let e : 2 ^ (8 * length (b ∷ bs)) ≡ 2 ^ 8 * 2 ^ (8 * length bs) = ap (λ (q : ℕ). 2 ^ q) (eight_more (length bs)) ∙ pow-add 2 8 (8 * length bs) in
    omega (arith, fits 0)

pub value_below_at : (n p : ℕ) (xs : List Bool) → value_of (take n (drop p xs)) < 2 ^ n
value_below_at n p xs =
    let h : value_of (take n (drop p xs)) < 2 ^ length (take n (drop p xs)) = value_of_below (take n (drop p xs)) in
    let u : 2 ^ length (take n (drop p xs)) ≤ 2 ^ n = pow_up (length (take n (drop p xs))) n (omega (arith, length-take n (drop p xs))) in
    omega arith

pub part_fits : (n p : ℕ) (bs : List ℕ) → ((i : ℕ) → get_or bs i 0 < 256) → (i : ℕ) → get_or (take n (drop p bs)) i 0 < 256
part_fits n p bs fits i =
    elim (cases_lt i n) [
      | inl lt ↦ rw (get_or-take n (drop p bs) i 0 lt, get_or-drop p bs i 0) (fits (p + i))
      | inr le ↦ rw (get_or_past (take n (drop p bs)) i 0 (omega (arith, length-take n (drop p bs)))) (omega arith)
    ]

pub le_value_below_at : (n p : ℕ) (bs : List ℕ) → ((i : ℕ) → get_or bs i 0 < 256) → le_value (take n (drop p bs)) < 2 ^ (8 * n)
le_value_below_at n p bs fits =
    let part : List ℕ = take n (drop p bs) in
    let h : le_value (take n (drop p bs)) < 2 ^ (8 * length (take n (drop p bs))) = le_value_below (take n (drop p bs)) (part_fits n p bs fits) in
    let u : 2 ^ (8 * length (take n (drop p bs))) ≤ 2 ^ (8 * n) = pow_up (8 * length (take n (drop p bs))) (8 * n) (omega (arith, length-take n (drop p bs))) in
    omega arith

-- ---- writing
-- a number's bits, in two parts
pub number_bits-add : (a b v : ℕ) → v < 2 ^ (a + b) → number_bits (a + b) v ≡ number_bits a (v / 2 ^ b) ++ number_bits b (v % 2 ^ b)
number_bits-add a b v lt =
    let high : v / 2 ^ b < 2 ^ a = shr_below v a b lt in
    let low : v % 2 ^ b < 2 ^ b = mod_below v (2 ^ b) (pow_pos b) in
    let xs : List Bool = number_bits a (v / 2 ^ b) ++ number_bits b (v % 2 ^ b) in
    let len : length (number_bits a (v / 2 ^ b) ++ number_bits b (v % 2 ^ b)) ≡ a + b = omega (arith, length-append (number_bits a (v / 2 ^ b)) (number_bits b (v % 2 ^ b)), length-number_bits a (v / 2 ^ b), length-number_bits b (v % 2 ^ b)) in
    let val : value_of (number_bits a (v / 2 ^ b) ++ number_bits b (v % 2 ^ b)) ≡ v =
    rw (value_of-append, length-number_bits b (v % 2 ^ b), value_of-number_bits a (v / 2 ^ b) high, value_of-number_bits b (v % 2 ^ b) low) (shr_split v b) in
    rw (← len) (ap (λ (n : ℕ). number_bits (length xs) n) (sym val)) ∙ number_bits-value_of xs

pub number_bits_zero : (n : ℕ) → number_bits n 0 ≡ replicate n false
unfolding number_bits
number_bits_zero zero = refl
number_bits_zero (suc n) = rw (lt-leb (2 ^ n) 0 (pow_pos n), mod_small n 0 (pow_pos n), number_bits_zero n) refl

-- the last bits, moved up in a byte
pub last_bits : (k v : ℕ) → k ≤ 8 → v < 2 ^ k → number_bits 8 (v * 2 ^ (8 - k)) ≡ number_bits k v ++ replicate (8 - k) false
last_bits k v le lt =
    let j : ℕ = 8 - k in
    let e : 8 ≡ k + (8 - k) = omega arith in
    let big : v * 2 ^ (8 - k) < 2 ^ (k + (8 - k)) = shl_below v k (8 - k) lt in
    let zero_is : v * 2 ^ (8 - k) % 2 ^ (8 - k) ≡ 0 = subst (λ (x : ℕ). x % 2 ^ (8 - k) ≡ 0) (add-zero (v * 2 ^ (8 - k))) (mod_low v (8 - k) 0 (pow_pos (8 - k))) in
    ap (λ (n : ℕ). number_bits n (v * 2 ^ (8 - k))) e ∙ number_bits-add k (8 - k) (v * 2 ^ (8 - k)) big
    ∙ rw (shl-shr v (8 - k), zero_is, number_bits_zero (8 - k)) refl

-- a whole byte goes out
pub byte_out : (bs : List ℕ) (left rest : ℕ) → 8 ≤ left → rest < 2 ^ left → bits (bs ++ rest / 2 ^ (left - 8) ∷ []) ++ number_bits (left - 8) (rest % 2 ^ (left - 8)) ≡ bits bs ++ number_bits left rest
byte_out bs left rest le lt =
    let e : left ≡ 8 + (left - 8) = omega arith in
    let lt' : rest < 2 ^ (8 + (left - 8)) = subst (λ (n : ℕ). rest < 2 ^ n) e lt in
    let parts : number_bits left rest ≡ number_bits 8 (rest / 2 ^ (left - 8)) ++ number_bits (left - 8) (rest % 2 ^ (left - 8)) = ap (λ (n : ℕ). number_bits n rest) e ∙ number_bits-add 8 (left - 8) rest lt' in
    rw (bits-append bs (rest / 2 ^ (left - 8) ∷ []), one_byte (rest / 2 ^ (left - 8)), parts) (append_assoc (bits bs) (number_bits 8 (rest / 2 ^ (left - 8))) (number_bits (left - 8) (rest % 2 ^ (left - 8))))

pub byte_fits : (left rest : ℕ) → 8 ≤ left → rest < 2 ^ left → rest / 2 ^ (left - 8) < 2 ^ 8
byte_fits left rest le lt = let e : left ≡ 8 + (left - 8) = omega arith in shr_below rest 8 (left - 8) (subst (λ (n : ℕ). rest < 2 ^ n) e lt)

pub last_fits : (left rest : ℕ) → left ≤ 8 → rest < 2 ^ left → rest * 2 ^ (8 - left) < 2 ^ 8
last_fits left rest le lt = let e : left + (8 - left) ≡ 8 = omega arith in subst (λ (n : ℕ). rest * 2 ^ (8 - left) < 2 ^ n) e (shl_below rest left (8 - left) lt)

pub left_none : (done total : List Bool) (left rest : ℕ) → left ≡ 0 → done ++ number_bits left rest ≡ total → done ≡ total ++ []
unfolding number_bits
left_none done total left rest e so_far =
    let none : number_bits left rest ≡ [] = rw e refl in
    sym (append-nil done) ∙ ap (λ (t : List Bool). done ++ t) (sym none) ∙ so_far ∙ sym (append-nil total)

pub last_out : (bs : List ℕ) (total : List Bool) (left rest : ℕ) → left ≤ 8 → rest < 2 ^ left → bits bs ++ number_bits left rest ≡ total → bits (bs ++ rest * 2 ^ (8 - left) ∷ []) ≡ total ++ replicate (8 - left) false
last_out bs total left rest le lt so_far =
    rw (bits-append bs (rest * 2 ^ (8 - left) ∷ []), one_byte (rest * 2 ^ (8 - left)), last_bits left rest le lt)
    (sym (append_assoc (bits bs) (number_bits left rest) (replicate (8 - left) false)) ∙ ap (λ (t : List Bool). t ++ replicate (8 - left) false) so_far)

-- ---- a number in one byte or two
byte_value : (b : ℕ) → b < 256 → value_of (bits (b ∷ [])) ≡ b
byte_value b lt = ap value_of (one_byte b) ∙ value_of-number_bits 8 b lt

pair_value : (a b : ℕ) → a < 256 → b < 256 → value_of (bits (a ∷ b ∷ [])) ≡ a * 256 + b
pair_value a b la lb =
    let h : value_of (bits (a ∷ [])) * 256 + b ≡ value_of (bits (a ∷ b ∷ [])) = gathered_more (a ∷ b ∷ []) 1 (omega arith) lb in
    sym h ∙ ap (λ (n : ℕ). n * 256 + b) (byte_value a la)

pub in_one_byte : (bs : List ℕ) (place width : ℕ) → 1 ≤ width → place % 8 + width ≤ 8 → place + width ≤ 8 * length bs → get_or bs (place / 8) 0 < 256
    → get_or bs (place / 8) 0 / 2 ^ (8 - (place % 8 + width)) % 2 ^ width ≡ value_of (take width (drop place (bits bs)))
in_one_byte bs place width some one le fits =
    let n : (place + width + 7) / 8 - place / 8 ≡ 1 = omega arith in
    let r : (place + width + 7) / 8 * 8 - (place + width) ≡ 8 - (place % 8 + width) = omega arith in
    let step : drop (place / 8) bs ≡ get_or bs (place / 8) 0 ∷ drop (place / 8 + 1) bs = drop_more bs (place / 8) 0 (omega arith) in
    let part : value_of (bits (take ((place + width + 7) / 8 - place / 8) (drop (place / 8) bs))) ≡ get_or bs (place / 8) 0 = rw (n, step) (byte_value (get_or bs (place / 8) 0) fits) in
    ap (λ (q : ℕ). q / 2 ^ (8 - (place % 8 + width)) % 2 ^ width) (sym part)
    ∙ ap (λ (q : ℕ). value_of (bits (take ((place + width + 7) / 8 - place / 8) (drop (place / 8) bs))) / 2 ^ q % 2 ^ width) (sym r) ∙ number_in_bytes bs place width le

pub in_two_bytes : (bs : List ℕ) (place width : ℕ) → width ≤ 8 → 8 < place % 8 + width → place + width ≤ 8 * length bs → get_or bs (place / 8) 0 < 256 → get_or bs (place / 8 + 1) 0 < 256
    → (get_or bs (place / 8) 0 * 256 + get_or bs (place / 8 + 1) 0) / 2 ^ (16 - (place % 8 + width)) % 2 ^ width ≡ value_of (take width (drop place (bits bs)))
in_two_bytes bs place width narrow two le fits more =
    let n : (place + width + 7) / 8 - place / 8 ≡ 2 = omega arith in
    let r : (place + width + 7) / 8 * 8 - (place + width) ≡ 16 - (place % 8 + width) = omega arith in
    let first : drop (place / 8) bs ≡ get_or bs (place / 8) 0 ∷ drop (place / 8 + 1) bs = drop_more bs (place / 8) 0 (omega arith) in
    let second : drop (place / 8 + 1) bs ≡ get_or bs (place / 8 + 1) 0 ∷ drop (place / 8 + 1 + 1) bs = drop_more bs (place / 8 + 1) 0 (omega arith) in
    let part : value_of (bits (take ((place + width + 7) / 8 - place / 8) (drop (place / 8) bs))) ≡ get_or bs (place / 8) 0 * 256 + get_or bs (place / 8 + 1) 0 =
    rw (n, first, second) (pair_value (get_or bs (place / 8) 0) (get_or bs (place / 8 + 1) 0) fits more) in
    ap (λ (q : ℕ). q / 2 ^ (16 - (place % 8 + width)) % 2 ^ width) (sym part)
    ∙ ap (λ (q : ℕ). value_of (bits (take ((place + width + 7) / 8 - place / 8) (drop (place / 8) bs))) / 2 ^ q % 2 ^ width) (sym r) ∙ number_in_bytes bs place width le
