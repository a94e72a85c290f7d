-- Words: eight bytes at a time.
use Rattle.std.proofs.Common.{◌≡◌, ℕ, zero, suc, ◌+◌, ◌*◌, ◌-◌, ◌/◌, ◌%◌, ◌^◌, ◌<◌, ◌≤◌, Bool, List, [], ◌∷◌, ◌++◌, length, get_or, take, drop, refl, sym, ap, ◌∙◌, subst, add-zero, arith, bit_and}
use Rattle.std.proofs.lemmas.List.{length-take, length-drop, take-append-drop, take-take, drop-take, drop-drop, drop_more, get_or-drop, take_all}
use Rattle.std.proofs.lemmas.Nat.{pow-add, shr_high, mod_low, and_mask, shl_below, shl-shr, shr-shr}
use Rattle.std.specs.Int.{w64, from_be_bytes, from_le_bytes}
use Rattle.exi_bits.specs.Bits.{bits, number_bits, value_of, le_value}
use Rattle.exi_bits.proofs.BitLaws.{length-bits, bits-take, bits-drop, gathered_more, middle_of, value_of-append, value_of_below, value_of-number_bits, le_value_below, part_fits}

-- so many bytes from i + k on, as they are read
abbrev reads : List ℕ → ℕ → ℕ → ℕ → List ℕ
reads bs i k zero = []
reads bs i k (suc n) = get_or bs (i + k) 0 ∷ reads bs i (suc k) n

read_out : (n : ℕ) (bs : List ℕ) (i k : ℕ) → i + k + n ≤ length bs → take n (drop (i + k) bs) ≡ reads bs i k n
read_out zero bs i k le = refl
read_out (suc n) bs i k le =
    let next : i + k + 1 ≡ i + suc k = omega arith in
    ap (λ (t : List ℕ). take (suc n) t) (drop_more bs (i + k) 0 (omega arith))
    ∙ ap (λ (t : List ℕ). get_or bs (i + k) 0 ∷ t) (ap (λ (m : ℕ). take n (drop m bs)) next ∙ read_out n bs i (suc k) (omega arith))

from_first : (bs : List ℕ) (i : ℕ) → i + 8 ≤ length bs → take 8 (drop i bs) ≡ reads bs i 0 8
from_first bs i le = let e : i ≡ i + 0 = omega arith in ap (λ (m : ℕ). take 8 (drop m bs)) e ∙ read_out 8 bs i 0 (omega arith)

-- a byte in front
front_value : (b : ℕ) (bs : List ℕ) → b < 256 → value_of (bits (b ∷ bs)) ≡ b * 2 ^ (8 * length bs) + value_of (bits bs)
unfolding bits
front_value b bs lt = value_of-append (number_bits 8 b) (bits bs) ∙ rw (length-bits bs, value_of-number_bits 8 b lt) refl

none_value : value_of (bits []) ≡ 0
unfolding bits value_of
none_value = refl

-- eight bytes, the most significant first
pub eight_value : (a b c d e f g h : ℕ) → a < 256 → b < 256 → c < 256 → d < 256 → e < 256 → f < 256 → g < 256 → h < 256
    → a * 72057594037927936 + b * 281474976710656 + c * 1099511627776 + d * 4294967296 + e * 16777216 + f * 65536 + g * 256 + h ≡ value_of (bits (a ∷ b ∷ c ∷ d ∷ e ∷ f ∷ g ∷ h ∷ []))
eight_value a b c d e f g h fa fb fc fd fe ff fg fh =
    omega (arith, front_value a (b ∷ c ∷ d ∷ e ∷ f ∷ g ∷ h ∷ []) fa, front_value b (c ∷ d ∷ e ∷ f ∷ g ∷ h ∷ []) fb, front_value c (d ∷ e ∷ f ∷ g ∷ h ∷ []) fc, front_value d (e ∷ f ∷ g ∷ h ∷ []) fd, front_value e (f ∷ g ∷ h ∷ []) fe, front_value f (g ∷ h ∷ []) ff, front_value g (h ∷ []) fg, front_value h [] fh, none_value)

module _ (bs : List ℕ) (i : ℕ) where
  here : get_or bs (i + 0) 0 ≡ get_or bs i 0
  here = ap (λ (k : ℕ). get_or bs k 0) (omega arith)

  pub word_is : i + 8 ≤ length bs → ((k : ℕ) → get_or bs k 0 < 256)
      → get_or bs i 0 * 72057594037927936 + get_or bs (i + 1) 0 * 281474976710656 + get_or bs (i + 2) 0 * 1099511627776 + get_or bs (i + 3) 0 * 4294967296
      + get_or bs (i + 4) 0 * 16777216 + get_or bs (i + 5) 0 * 65536 + get_or bs (i + 6) 0 * 256 + get_or bs (i + 7) 0 ≡ value_of (bits (take 8 (drop i bs)))
  word_is le fits =
      rw (from_first bs i le, here) (eight_value (get_or bs i 0) (get_or bs (i + 1) 0) (get_or bs (i + 2) 0) (get_or bs (i + 3) 0) (get_or bs (i + 4) 0) (get_or bs (i + 5) 0) (get_or bs (i + 6) 0) (get_or bs (i + 7) 0)
      (fits i) (fits (i + 1)) (fits (i + 2)) (fits (i + 3)) (fits (i + 4)) (fits (i + 5)) (fits (i + 6)) (fits (i + 7)))

  pub back_word_is : i + 8 ≤ length bs
      → get_or bs i 0 + get_or bs (i + 1) 0 * 256 + get_or bs (i + 2) 0 * 65536 + get_or bs (i + 3) 0 * 16777216
      + get_or bs (i + 4) 0 * 4294967296 + get_or bs (i + 5) 0 * 1099511627776 + get_or bs (i + 6) 0 * 281474976710656 + get_or bs (i + 7) 0 * 72057594037927936 ≡ le_value (take 8 (drop i bs))
  unfolding le_value
  back_word_is le = rw (from_first bs i le, here) (omega arith)

  pub word_of_octets : i + 8 ≤ length bs → ((k : ℕ) → get_or bs k 0 < 256) → from_be_bytes w64 (take 8 (drop i bs)) ≡ value_of (bits (take 8 (drop i bs)))
  word_of_octets le fits = sym (ap (from_be_bytes w64) (sym (from_first bs i le))) ∙ omega (arith, word_is le fits, here)

  pub back_word_of_octets : i + 8 ≤ length bs → from_le_bytes w64 (take 8 (drop i bs)) ≡ le_value (take 8 (drop i bs))
  back_word_of_octets le = sym (ap (from_le_bytes w64) (sym (from_first bs i le))) ∙ omega (arith, back_word_is le, here)

-- ---- a word at a bit
shifted : (o w b : ℕ) → o < 8 → w < 2 ^ 64 → b < 256 → (w * 256 + b) / 2 ^ (8 - o) % 2 ^ 64 ≡ w * 2 ^ o % 2 ^ 64 + b / 2 ^ (8 - o)
shifted zero w b lt fits small = omega arith
shifted (suc zero) w b lt fits small = omega arith
shifted (suc (suc zero)) w b lt fits small = omega arith
shifted (suc (suc (suc zero))) w b lt fits small = omega arith
shifted (suc (suc (suc (suc zero)))) w b lt fits small = omega arith
shifted (suc (suc (suc (suc (suc zero))))) w b lt fits small = omega arith
shifted (suc (suc (suc (suc (suc (suc zero)))))) w b lt fits small = omega arith
shifted (suc (suc (suc (suc (suc (suc (suc zero))))))) w b lt fits small = omega arith
shifted (suc (suc (suc (suc (suc (suc (suc (suc o)))))))) w b lt fits small = absurd (omega arith)

-- nine bytes hold 64 bits at any bit of the first
pub word_at_bit_is : (bs : List ℕ) (place : ℕ) → place / 8 + 9 ≤ length bs → get_or bs (place / 8 + 8) 0 < 256
    → value_of (bits (take 8 (drop (place / 8) bs))) * 2 ^ (place % 8) % 2 ^ 64 + get_or bs (place / 8 + 8) 0 / 2 ^ (8 - place % 8) ≡ value_of (take 64 (drop place (bits bs)))
word_at_bit_is bs place le fits =
    let f : ℕ = place / 8 in
    let o : ℕ = place % 8 in
    let ds : List ℕ = drop (place / 8) bs in
    let w : ℕ = value_of (bits (take 8 (drop (place / 8) bs))) in
    let b : ℕ = get_or bs (place / 8 + 8) 0 in
    let few : place % 8 < 8 = omega arith in
    let long : 9 ≤ length (drop (place / 8) bs) = omega (arith, length-drop (place / 8) bs) in
    let n8 : length (bits (take 8 (drop (place / 8) bs))) ≡ 64 = omega (arith, length-bits (take 8 (drop (place / 8) bs)), length-take 8 (drop (place / 8) bs)) in
    let n9 : length (bits (take 9 (drop (place / 8) bs))) ≡ 72 = omega (arith, length-bits (take 9 (drop (place / 8) bs)), length-take 9 (drop (place / 8) bs)) in
    let below : w < 2 ^ 64 = subst (λ (n : ℕ). value_of (bits (take 8 (drop (place / 8) bs))) < 2 ^ n) n8 (value_of_below (bits (take 8 (drop (place / 8) bs)))) in
    let ninth : get_or (drop (place / 8) bs) 8 0 ≡ b = get_or-drop (place / 8) bs 8 0 in
    let nine : w * 256 + b ≡ value_of (bits (take 9 (drop (place / 8) bs))) =
    subst (λ (x : ℕ). w * 256 + x ≡ value_of (bits (take 9 (drop (place / 8) bs)))) ninth (gathered_more ds 8 (omega arith) (subst (λ (x : ℕ). x < 256) (sym ninth) fits)) in
    let middle : value_of (bits (take 9 (drop (place / 8) bs))) / 2 ^ (8 - place % 8) % 2 ^ 64 ≡ value_of (take 64 (drop (place % 8) (bits (take 9 (drop (place / 8) bs))))) =
    middle_of (bits (take 9 (drop (place / 8) bs))) (place % 8) 64 (8 - place % 8) (omega arith) in
    let inside : bits (take 9 (drop (place / 8) bs)) ≡ take 72 (drop (8 * (place / 8)) (bits bs)) =
    sym (ap (λ (t : List Bool). take 72 t) (bits-drop (place / 8) bs (omega arith)) ∙ bits-take 9 (drop (place / 8) bs) (omega arith)) in
    let e : 72 ≡ place % 8 + (64 + (8 - place % 8)) = omega arith in
    let spot : 8 * (place / 8) + place % 8 ≡ place = omega arith in
    sym (shifted o w b few below fits) ∙ ap (λ (x : ℕ). x / 2 ^ (8 - place % 8) % 2 ^ 64) nine ∙ middle
    ∙ ap (λ (t : List Bool). value_of (take 64 (drop (place % 8) t))) (inside ∙ ap (λ (q : ℕ). take q (drop (8 * (place / 8)) (bits bs))) e)
    ∙ ap (λ (t : List Bool). value_of (take 64 t)) (drop-take (place % 8) (64 + (8 - place % 8)) (drop (8 * (place / 8)) (bits bs)))
    ∙ ap value_of (take-take 64 (64 + (8 - place % 8)) (drop (place % 8) (drop (8 * (place / 8)) (bits bs))) (omega arith))
    ∙ ap (λ (t : List Bool). value_of (take 64 t)) (drop-drop (place % 8) (8 * (place / 8)) (bits bs) ∙ ap (λ (q : ℕ). drop q (bits bs)) spot)

-- the first of so many bits
pub first_bits : (xs : List Bool) (w n : ℕ) → w ≤ n → n ≤ length xs → value_of (take n xs) / 2 ^ (n - w) ≡ value_of (take w xs)
first_bits xs w n le long =
    let front : List Bool = take w (take n xs) in
    let back : List Bool = drop w (take n xs) in
    let same : take w (take n xs) ≡ take w xs = take-take w n xs le in
    let len : length (drop w (take n xs)) ≡ n - w = omega (arith, length-drop w (take n xs), length-take n xs) in
    let below : value_of (drop w (take n xs)) < 2 ^ (n - w) = subst (λ (k : ℕ). value_of (drop w (take n xs)) < 2 ^ k) len (value_of_below (drop w (take n xs))) in
    let parts : value_of (take n xs) ≡ value_of (take w (take n xs)) * 2 ^ (n - w) + value_of (drop w (take n xs)) =
    ap value_of (sym (take-append-drop w (take n xs))) ∙ value_of-append front back ∙ ap (λ (k : ℕ). value_of (take w (take n xs)) * 2 ^ k + value_of (drop w (take n xs))) len in
    ap (λ (x : ℕ). x / 2 ^ (n - w)) parts ∙ shr_high (value_of front) (n - w) (value_of back) below ∙ ap value_of same

-- the first bits of a word that was moved up
moved_up : (xs : List Bool) (o w : ℕ) → o + w ≤ 64 → w ≤ 63 → length xs ≡ 64 → value_of xs * 2 ^ o % 2 ^ 64 / 2 ^ 1 / 2 ^ (63 - w) ≡ value_of (take w (drop o xs))
moved_up xs o w le some len =
    let a : ℕ = value_of (take o xs) in
    let b : ℕ = value_of (drop o xs) in
    let size : length (drop o xs) ≡ 64 - o = omega (arith, length-drop o xs) in
    let below : value_of (drop o xs) < 2 ^ (64 - o) = subst (λ (k : ℕ). value_of (drop o xs) < 2 ^ k) size (value_of_below (drop o xs)) in
    let whole : 64 - o + o ≡ 64 = omega arith in
    let parts : value_of xs ≡ a * 2 ^ (64 - o) + b =
    ap value_of (sym (take-append-drop o xs)) ∙ value_of-append (take o xs) (drop o xs) ∙ ap (λ (k : ℕ). a * 2 ^ k + b) size in
    let power : 2 ^ (64 - o) * 2 ^ o ≡ 2 ^ 64 = sym (pow-add 2 (64 - o) o) ∙ ap (λ (k : ℕ). 2 ^ k) whole in
    let up : value_of xs * 2 ^ o ≡ a * 2 ^ 64 + b * 2 ^ o =
    ap (λ (x : ℕ). x * 2 ^ o) parts ∙ spread a (2 ^ (64 - o)) b (2 ^ o) ∙ ap (λ (p : ℕ). a * p + b * 2 ^ o) power in
    let fits : b * 2 ^ o < 2 ^ 64 = subst (λ (k : ℕ). b * 2 ^ o < 2 ^ k) whole (shl_below b (64 - o) o below) in
    let low : value_of xs * 2 ^ o % 2 ^ 64 ≡ b * 2 ^ o = ap (λ (x : ℕ). x % 2 ^ 64) up ∙ mod_low a 64 (b * 2 ^ o) fits in
    let shift : 1 + (63 - w) ≡ o + (64 - o - w) = omega arith in
    let down : b * 2 ^ o / 2 ^ 1 / 2 ^ (63 - w) ≡ b / 2 ^ (64 - o - w) =
    shr-shr (b * 2 ^ o) 1 (63 - w) ∙ ap (λ (k : ℕ). b * 2 ^ o / 2 ^ k) shift ∙ sym (shr-shr (b * 2 ^ o) o (64 - o - w)) ∙ ap (λ (x : ℕ). x / 2 ^ (64 - o - w)) (shl-shr b o) in
    let all : take (64 - o) (drop o xs) ≡ drop o xs = take_all (64 - o) (drop o xs) (omega arith) in
    ap (λ (x : ℕ). x / 2 ^ 1 / 2 ^ (63 - w)) low ∙ down
    ∙ ap (λ (t : List Bool). value_of t / 2 ^ (64 - o - w)) (sym all) ∙ first_bits (drop o xs) w (64 - o) (omega arith) (omega arith)
  where
    spread : (a p b q : ℕ) → (a * p + b) * q ≡ a * (p * q) + b * q
    spread a p b q = grind arith

-- eight bytes hold 57 bits at any bit of the first
pub quick_is : (bs : List ℕ) (place width : ℕ) → width ≤ 57 → place / 8 + 8 ≤ length bs
    → value_of (bits (take 8 (drop (place / 8) bs))) * 2 ^ (place % 8) % 2 ^ 64 / 2 ^ 1 / 2 ^ (63 - width) ≡ value_of (take width (drop place (bits bs)))
quick_is bs place width narrow le =
    let o : ℕ = place % 8 in
    let start : List Bool = drop (8 * (place / 8)) (bits bs) in
    let eight : length (bits (take 8 (drop (place / 8) bs))) ≡ 64 = omega (arith, length-bits (take 8 (drop (place / 8) bs)), length-take 8 (drop (place / 8) bs), length-drop (place / 8) bs) in
    let inside : bits (take 8 (drop (place / 8) bs)) ≡ take 64 (drop (8 * (place / 8)) (bits bs)) =
    sym (ap (λ (t : List Bool). take 64 t) (bits-drop (place / 8) bs (omega arith)) ∙ bits-take 8 (drop (place / 8) bs) (omega (arith, length-drop (place / 8) bs))) in
    let e : 64 ≡ place % 8 + (64 - place % 8) = omega arith in
    let spot : 8 * (place / 8) + place % 8 ≡ place = omega arith in
    moved_up (bits (take 8 (drop (place / 8) bs))) (place % 8) width (omega arith) (omega arith) eight
    ∙ ap (λ (t : List Bool). value_of (take width (drop o t))) (inside ∙ ap (λ (q : ℕ). take q start) e)
    ∙ ap (λ (t : List Bool). value_of (take width t)) (drop-take o (64 - o) start)
    ∙ ap value_of (take-take width (64 - o) (drop o start) (omega arith))
    ∙ ap (λ (t : List Bool). value_of (take width t)) (drop-drop (place % 8) (8 * (place / 8)) (bits bs) ∙ ap (λ (q : ℕ). drop q (bits bs)) spot)

-- ---- the low bytes of a word
pub low_mask : (count : ℕ) → 1 ≤ count → count ≤ 8 → 18446744073709551615 / 2 ^ (64 - 8 * count) ≡ 2 ^ (8 * count) - 1
low_mask zero some few = absurd (omega arith)
low_mask (suc zero) some few = refl
low_mask (suc (suc zero)) some few = refl
low_mask (suc (suc (suc zero))) some few = refl
low_mask (suc (suc (suc (suc zero)))) some few = refl
low_mask (suc (suc (suc (suc (suc zero))))) some few = refl
low_mask (suc (suc (suc (suc (suc (suc zero)))))) some few = refl
low_mask (suc (suc (suc (suc (suc (suc (suc zero))))))) some few = refl
low_mask (suc (suc (suc (suc (suc (suc (suc (suc zero)))))))) some few = refl
low_mask (suc (suc (suc (suc (suc (suc (suc (suc (suc n))))))))) some few = absurd (omega arith)

eight_on : (n : ℕ) → 8 * suc n ≡ 8 + 8 * n
eight_on n = omega arith

le_value-append : (a b : List ℕ) → le_value (a ++ b) ≡ le_value b * 2 ^ (8 * length a) + le_value a
unfolding le_value
le_value-append [] b = omega arith
le_value-append (x ∷ a) b =
    let h = le_value-append a b in
    let e : 2 ^ (8 * length (x ∷ a)) ≡ 256 * 2 ^ (8 * length a) = ap (λ (q : ℕ). 2 ^ q) (eight_on (length a)) ∙ pow-add 2 8 (8 * length a) in
    rw (e, h) (spread x (le_value b) (2 ^ (8 * length a)) (le_value a))
  where
    spread : (x b p a : ℕ) → x + 256 * (b * p + a) ≡ b * (256 * p) + (x + 256 * a)
    spread x b p a = grind arith

pub low_bytes : (xs : List ℕ) (n m : ℕ) → n ≤ m → m ≤ length xs → ((i : ℕ) → get_or xs i 0 < 256) → le_value (take m xs) % 2 ^ (8 * n) ≡ le_value (take n xs)
low_bytes xs n m le long fits =
    let same : take n (take m xs) ≡ take n xs = take-take n m xs le in
    let len : length (take n xs) ≡ n = omega (arith, length-take n xs) in
    let below : le_value (take n xs) < 2 ^ (8 * n) = subst (λ (k : ℕ). le_value (take n xs) < 2 ^ (8 * k)) len (le_value_below (take n xs) (part_of n xs fits)) in
    let parts : le_value (take m xs) ≡ le_value (drop n (take m xs)) * 2 ^ (8 * n) + le_value (take n xs) =
    ap le_value (sym (take-append-drop n (take m xs))) ∙ ap (λ (t : List ℕ). le_value (t ++ drop n (take m xs))) same ∙ le_value-append (take n xs) (drop n (take m xs)) ∙ ap (λ (k : ℕ). le_value (drop n (take m xs)) * 2 ^ (8 * k) + le_value (take n xs)) len in
    ap (λ (x : ℕ). x % 2 ^ (8 * n)) parts ∙ mod_low (le_value (drop n (take m xs))) (8 * n) (le_value (take n xs)) below
  where
    part_of : (n : ℕ) (xs : List ℕ) → ((i : ℕ) → get_or xs i 0 < 256) → (i : ℕ) → get_or (take n xs) i 0 < 256
    part_of n xs fits = part_fits n 0 xs fits

pub low_word : (bs : List ℕ) (first count : ℕ) → 1 ≤ count → count ≤ 8 → first + 8 ≤ length bs → ((i : ℕ) → get_or bs i 0 < 256) → bit_and (le_value (take 8 (drop first bs))) (18446744073709551615 / 2 ^ (64 - 8 * count)) ≡ le_value (take count (drop first bs))
low_word bs first count some few le fits =
    rw (low_mask count some few, and_mask) (low_bytes (drop first bs) count 8 few (omega (arith, length-drop first bs)) (λ i. rw get_or-drop (fits (first + i))))

pub one_byte_at : (bs : List ℕ) (first : ℕ) → first < length bs → get_or bs first 0 ≡ le_value (take 1 (drop first bs))
unfolding le_value
one_byte_at bs first lt = sym (add-zero (get_or bs first 0)) ∙ sym (ap (λ (t : List ℕ). le_value (take 1 t)) (drop_more bs first 0 lt))
