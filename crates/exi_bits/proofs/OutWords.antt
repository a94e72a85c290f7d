-- Octets that are added by words.
use Rattle.std.proofs.Common.{◌≡◌, if◌then◌else◌, Result, ℕ, add-zero, false, ◌+◌, ◌*◌, ◌-◌, ◌/◌, ◌%◌, ◌^◌, ◌<◌, ◌≤◌, Bool, List, [], ◌∷◌, ◌++◌, length, take, drop, refl, sym, ap, ◌∙◌, subst, append_assoc, arith, bit_and}
use Rattle.std.proofs.Math.Seq.{take-append-add}
use Rattle.std.proofs.lemmas.List.{take_at, length-append, length-replicate, replicate-append-replicate, append-nil, length-take, length-drop, take-append-drop, take-take, drop-take, take_all}
use Rattle.std.proofs.lemmas.Nat.{pow_pos, shl-shr, shr_high, mod_low, shl_below, shr_below, and_mask, one_shl}
use Rattle.std.specs.Int.{w64, to_be_bytes}
use Rattle.std.specs.Result.{IsOk, is_ok}
use Rattle.exi_bits.specs.Bits.{bits, number_bits, value_of}
use Rattle.exi_bits.specs.Written.{zeros, written, IsPadded}
use Rattle.exi_bits.proofs.BitLaws.{pow_up, bits-take, number_bits_zero, bits_parts, length-bits, length-number_bits, bits-append, number_bits-add, number_bits-value_of, value_of-number_bits, value_of_below}
use Rattle.exi_bits.proofs.OctetLaws.{bits_octets, word_octets}
use Rattle.exi_bits.proofs.Outs.{all_fits, put_is, padded_from, tail_opens}

-- the bits of a word's bytes
bits_word : (v : ℕ) → v < 2 ^ 64 → bits (to_be_bytes w64 v) ≡ number_bits 64 v
bits_word v lt =
    let text : List Bool = number_bits 64 v in
    let len : length (number_bits 64 v) ≡ 64 = length-number_bits 64 v in
    let all : take 64 (number_bits 64 v) ≡ number_bits 64 v = take_all 64 (number_bits 64 v) (omega (arith, len)) in
    let val : value_of (take 64 (number_bits 64 v)) ≡ v = ap value_of all ∙ value_of-number_bits 64 v lt in
    ap (λ (n : ℕ). bits (to_be_bytes w64 n)) (sym val) ∙ ap bits (word_octets text (omega (arith, len))) ∙ bits_octets 8 text (omega (arith, len)) ∙ all

-- a number at the head of a word
headed : (w v : ℕ) → w ≤ 64 → v < 2 ^ w → number_bits 64 (v * 2 ^ (64 - w)) ≡ number_bits w v ++ zeros (64 - w)
headed w v le lt =
    let j : ℕ = 64 - w in
    let e : 64 ≡ w + (64 - w) = omega arith in
    let big : v * 2 ^ (64 - w) < 2 ^ (w + (64 - w)) = shl_below v w (64 - w) lt in
    let low : v * 2 ^ (64 - w) % 2 ^ (64 - w) ≡ 0 = subst (λ (x : ℕ). x % 2 ^ (64 - w) ≡ 0) (add-zero (v * 2 ^ (64 - w))) (mod_low v (64 - w) 0 (pow_pos (64 - w))) in
    ap (λ (n : ℕ). number_bits n (v * 2 ^ (64 - w))) e ∙ number_bits-add w (64 - w) (v * 2 ^ (64 - w)) big
    ∙ rw (shl-shr v (64 - w), low, number_bits_zero (64 - w)) refl

pub head_fits : (w v : ℕ) → w ≤ 64 → v < 2 ^ w → v * 2 ^ (64 - w) < 2 ^ 64
head_fits w v le lt = let e : w + (64 - w) ≡ 64 = omega arith in subst (λ (n : ℕ). v * 2 ^ (64 - w) < 2 ^ n) e (shl_below v w (64 - w) lt)

-- the bytes of a word in which the number at its head lies
head_out : (w v c : ℕ) → w ≤ 64 → v < 2 ^ w → c ≡ (w + 7) / 8 → bits (take c (to_be_bytes w64 (v * 2 ^ (64 - w)))) ≡ number_bits w v ++ zeros (c * 8 - w)
head_out w v c le lt is =
    let word : List ℕ = to_be_bytes w64 (v * 2 ^ (64 - w)) in
    let eight : length (to_be_bytes w64 (v * 2 ^ (64 - w))) ≡ 8 = omega (arith, length-bits word, ap length (bits_word (v * 2 ^ (64 - w)) (head_fits w v le lt)), length-number_bits 64 (v * 2 ^ (64 - w))) in
    let all : bits (to_be_bytes w64 (v * 2 ^ (64 - w))) ≡ number_bits w v ++ zeros (64 - w) = bits_word (v * 2 ^ (64 - w)) (head_fits w v le lt) ∙ headed w v le lt in
    let split : 64 - w ≡ c * 8 - w + (64 - c * 8) = omega arith in
    let size : 8 * c ≡ w + (c * 8 - w) = omega arith in
    let front : List Bool = number_bits w v ++ zeros (c * 8 - w) in
    let parts : number_bits w v ++ zeros (64 - w) ≡ (number_bits w v ++ zeros (c * 8 - w)) ++ zeros (64 - c * 8) =
    ap (λ (n : ℕ). number_bits w v ++ zeros n) split ∙ ap (λ (t : List Bool). number_bits w v ++ t) (sym (replicate-append-replicate (c * 8 - w) (64 - c * 8) false)) ∙ sym (append_assoc (number_bits w v) (zeros (c * 8 - w)) (zeros (64 - c * 8))) in
    let len : length (number_bits w v ++ zeros (c * 8 - w)) ≡ 8 * c = omega (arith, length-append (number_bits w v) (zeros (c * 8 - w)), length-number_bits w v, length-replicate (c * 8 - w) false) in
    sym (bits-take c word (omega arith)) ∙ ap (λ (t : List Bool). take (8 * c) t) (all ∙ parts) ∙ take_at front (zeros (64 - c * 8)) (8 * c) len

-- the word behind the bytes, and what stays of it
pub word_stays : (new mid old : List ℕ) (w v c n word : ℕ) → w ≤ 64 → v < 2 ^ w → c ≡ (w + 7) / 8 → n ≡ length old + c → word ≡ v * 2 ^ (64 - w) → mid ≡ old ++ to_be_bytes w64 word → new ≡ take n mid
    → bits new ≡ bits old ++ number_bits w v ++ zeros (c * 8 - w)
word_stays new mid old w v c n word le lt is end head e cut =
    let text : List ℕ = to_be_bytes w64 (v * 2 ^ (64 - w)) in
    let stays : take (length old + c) (old ++ text) ≡ old ++ take c text = take-append-add old text c in
    let new_is : new ≡ old ++ take c text = cut ∙ rw (e, head, end) stays in
    ap bits new_is ∙ bits-append old (take c text) ∙ ap (λ (t : List Bool). bits old ++ t) (head_out w v c le lt is) ∙ sym (append_assoc (bits old) (number_bits w v) (zeros (c * 8 - w)))

-- a word that is read is its bits
word_bits : (bs : List ℕ) → length bs ≡ 8 → number_bits 64 (value_of (bits bs)) ≡ bits bs
word_bits bs e =
    let len : length (bits bs) ≡ 64 = omega (arith, length-bits bs) in
    subst (λ (n : ℕ). number_bits n (value_of (bits bs)) ≡ bits bs) len (number_bits-value_of (bits bs))

pub word_below : (bs : List ℕ) (i w : ℕ) → i * 8 + 8 ≤ length bs → w ≡ value_of (bits (take 8 (drop (i * 8) bs))) → w < 2 ^ 64
word_below bs i w le is =
    let next : List ℕ = take 8 (drop (i * 8) bs) in
    let len : length (bits (take 8 (drop (i * 8) bs))) ≡ 64 = omega (arith, length-bits (take 8 (drop (i * 8) bs)), length-take 8 (drop (i * 8) bs), length-drop (i * 8) bs) in
    rw is (subst (λ (n : ℕ). value_of (bits (take 8 (drop (i * 8) bs))) < 2 ^ n) len (value_of_below (bits next)))

-- the word that goes out: the bits behind, and the first ones of the word that comes
pub out_fits : (k t w : ℕ) → 1 ≤ k → k ≤ 8 → t < 2 ^ k → w < 2 ^ 64 → t * 2 ^ (64 - k) + w / 2 ^ k < 2 ^ 64
out_fits k t w some few fits below =
    let e : 64 ≡ 64 - k + k = omega arith in
    let f : k + (64 - k) ≡ 64 = omega arith in
    let high : w / 2 ^ k < 2 ^ (64 - k) = shr_below w (64 - k) k (subst (λ (n : ℕ). w < 2 ^ n) e below) in
    subst (λ (n : ℕ). t * 2 ^ (64 - k) + w / 2 ^ k < 2 ^ n) f (all_fits t k (w / 2 ^ k) (64 - k) fits high)

word_out : (bs : List ℕ) (k t w : ℕ) → 1 ≤ k → k ≤ 8 → t < 2 ^ k → w < 2 ^ 64
    → bits (bs ++ to_be_bytes w64 (t * 2 ^ (64 - k) + w / 2 ^ k)) ++ number_bits k (w % 2 ^ k) ≡ (bits bs ++ number_bits k t) ++ number_bits 64 w
word_out bs k t w some few fits below =
    let e : 64 ≡ 64 - k + k = omega arith in
    let f : 64 ≡ k + (64 - k) = omega arith in
    let out : ℕ = t * 2 ^ (64 - k) + w / 2 ^ k in
    let high : w / 2 ^ k < 2 ^ (64 - k) = shr_below w (64 - k) k (subst (λ (n : ℕ). w < 2 ^ n) e below) in
    let one : number_bits 64 (t * 2 ^ (64 - k) + w / 2 ^ k) ≡ number_bits k t ++ number_bits (64 - k) (w / 2 ^ k) =
    ap (λ (n : ℕ). number_bits n out) f ∙ number_bits-add k (64 - k) out (all_fits t k (w / 2 ^ k) (64 - k) fits high) ∙ rw (shr_high t (64 - k) (w / 2 ^ k) high, mod_low t (64 - k) (w / 2 ^ k) high) refl in
    let two : number_bits 64 w ≡ number_bits (64 - k) (w / 2 ^ k) ++ number_bits k (w % 2 ^ k) =
    ap (λ (n : ℕ). number_bits n w) e ∙ number_bits-add (64 - k) k w (subst (λ (n : ℕ). w < 2 ^ n) e below) in
    let a : List Bool = number_bits k t in
    let b : List Bool = number_bits (64 - k) (w / 2 ^ k) in
    let z : List Bool = number_bits k (w % 2 ^ k) in
    ap (λ (x : List Bool). x ++ z) (bits-append bs (to_be_bytes w64 out) ∙ ap (λ (x : List Bool). bits bs ++ x) (bits_word out (out_fits k t w some few fits below) ∙ one) ∙ sym (append_assoc (bits bs) a b))
    ∙ append_assoc (bits bs ++ a) b z ∙ ap (λ (x : List Bool). (bits bs ++ number_bits k t) ++ x) (sym two)

words_next : (bs : List ℕ) (i : ℕ) → bits (take ((i + 1) * 8) bs) ≡ bits (take (i * 8) bs) ++ bits (take 8 (drop (i * 8) bs))
words_next bs i =
    let e : (i + 1) * 8 ≡ i * 8 + 8 = omega arith in
    let same : take (i * 8) (take (i * 8 + 8) bs) ≡ take (i * 8) bs = take-take (i * 8) (i * 8 + 8) bs (omega arith) in
    ap (λ (n : ℕ). bits (take n bs)) e
    ∙ ap bits (sym (take-append-drop (i * 8) (take (i * 8 + 8) bs)) ∙ ap (λ (t : List ℕ). t ++ drop (i * 8) (take (i * 8 + 8) bs)) same ∙ ap (λ (t : List ℕ). take (i * 8) bs ++ t) (drop-take (i * 8) 8 bs))
    ∙ bits-append (take (i * 8) bs) (take 8 (drop (i * 8) bs))

-- one word more
module _ (old : List Bool) (bs now : List ℕ) (i k t w : ℕ) where
  pub word_more : 1 ≤ k → k ≤ 8 → t < 2 ^ k → i * 8 + 8 ≤ length bs → w ≡ value_of (bits (take 8 (drop (i * 8) bs)))
      → bits now ++ number_bits k t ≡ old ++ bits (take (i * 8) bs)
      → bits (now ++ to_be_bytes w64 (t * 2 ^ (64 - k) + w / 2 ^ k)) ++ number_bits k (w % 2 ^ k) ≡ old ++ bits (take ((i + 1) * 8) bs)
  word_more some few fits le is so_far =
      let next : List ℕ = take 8 (drop (i * 8) bs) in
      let eight : length (take 8 (drop (i * 8) bs)) ≡ 8 = omega (arith, length-take 8 (drop (i * 8) bs), length-drop (i * 8) bs) in
      let text : number_bits 64 w ≡ bits next = ap (λ (n : ℕ). number_bits 64 n) is ∙ word_bits next eight in
      word_out now k t w some few fits (word_below bs i w le is)
      ∙ ap (λ (x : List Bool). x ++ number_bits 64 w) so_far ∙ ap (λ (x : List Bool). (old ++ bits (take (i * 8) bs)) ++ x) text
      ∙ append_assoc old (bits (take (i * 8) bs)) (bits next) ∙ ap (λ (x : List Bool). old ++ x) (sym (words_next bs i))

pub words_none : (old : List Bool) (bs : List ℕ) → old ≡ old ++ bits (take (0 * 8) bs)
unfolding bits
words_none old bs = sym (append-nil old)

-- as they are computed
pub out_is : (k t w : ℕ) → 1 ≤ k → k ≤ 8 → t < 2 ^ k → w < 2 ^ 64 → t * 2 ^ (64 - k) % 2 ^ 64 + w / 2 ^ k ≡ t * 2 ^ (64 - k) + w / 2 ^ k
out_is k t w some few fits below =
    let f = out_fits k t w some few fits below in
    let e : t * 2 ^ (64 - k) % 2 ^ 64 ≡ t * 2 ^ (64 - k) = omega arith in
    rw e refl

pub tail_is : (k w : ℕ) → k ≤ 8 → bit_and w (1 * 2 ^ k % 2 ^ 64 - 1) ≡ w % 2 ^ k
tail_is k w few = let lt : k < 64 = omega arith in rw (one_shl k 64 lt) (and_mask w k)

-- what was appended, where there was room for it
pub extended : {T E : Type 0} (r : Result T E) (new old more : List ℕ) → IsOk r → new ≡ (if is_ok r then old ++ more else old) → new ≡ old ++ more
extended r new old more ok e = rw ok at e

pub extended_len : {T E : Type 0} (r : Result T E) (new old more : ℕ) → IsOk r → new ≡ (if is_ok r then old + more else old) → new ≡ old + more
extended_len r new old more ok e = rw ok at e

pub parts_out : (old mid new : List Bool) (n : ℕ) (bs : List ℕ) → mid ≡ old ++ bits (take n bs) → new ≡ mid ++ bits (take (length bs - n) (drop n bs)) → new ≡ old ++ bits bs
parts_out old mid new n bs front rest =
    let last : take (length bs - n) (drop n bs) ≡ drop n bs = take_all (length bs - n) (drop n bs) (omega (arith, length-drop n bs)) in
    rest ∙ rw (front, last) (append_assoc old (bits (take n bs)) (bits (drop n bs)) ∙ ap (λ (t : List Bool). old ++ t) (sym (bits_parts n bs)))

-- the octets that are left, behind the words and as one number
pub rest_out : (old init mid new bs : List ℕ) (last sp first t v k r n : ℕ) → sp < 8 → last < 2 ^ 8 → t < 2 ^ (8 - sp) → old ≡ init ++ last ∷ [] → first ≡ last / 2 ^ sp
    → k ≡ length (take (length bs - n) (drop n bs)) → v ≡ value_of (bits (take (length bs - n) (drop n bs))) → r < 8
    → bits mid ++ number_bits (8 - sp) t ≡ (bits init ++ number_bits (8 - sp) first) ++ bits (take n bs)
    → bits new ≡ bits mid ++ number_bits (8 - sp + 8 * k) (t * 2 ^ (8 * k) + v) ++ zeros r
    → (written new sp ≡ written old sp ++ bits bs) × IsPadded new sp
rest_out old init mid new bs last sp first t v k r n few byte fits parts is size value spare words e =
    let rest : List ℕ = take (length bs - n) (drop n bs) in
    let before : written old sp ≡ bits init ++ number_bits (8 - sp) (last / 2 ^ sp) = tail_opens old init last sp parts (omega arith) byte in
    let total : bits mid ++ number_bits (8 - sp) t ≡ written old sp ++ bits (take n bs) = words ∙ rw (is, before) refl in
    let len : length (bits (take (length bs - n) (drop n bs))) ≡ 8 * k = omega (arith, length-bits rest) in
    let text : number_bits (8 * k) v ≡ bits (take (length bs - n) (drop n bs)) =
    ap (λ (x : ℕ). number_bits (8 * k) x) value ∙ subst (λ (q : ℕ). number_bits q (value_of (bits rest)) ≡ bits rest) len (number_bits-value_of (bits rest)) in
    let below : value_of (bits (take (length bs - n) (drop n bs))) < 2 ^ (8 * k) = subst (λ (q : ℕ). value_of (bits rest) < 2 ^ q) len (value_of_below (bits rest)) in
    let small : v < 2 ^ (8 * k) = subst (λ (x : ℕ). x < 2 ^ (8 * k)) (sym value) below in
    let all : List Bool = number_bits (8 - sp + 8 * k) (t * 2 ^ (8 * k) + v) in
    let same : r ≡ sp = omega (arith, length-bits new, ap length e, length-append (bits mid ++ all) (zeros r), length-append (bits mid) all, length-bits mid, length-number_bits (8 - sp + 8 * k) (t * 2 ^ (8 * k) + v), length-replicate r false) in
    let out : written new r ≡ (bits mid ++ number_bits (8 - sp) t) ++ number_bits (8 * k) v = put_is new mid (bits mid ++ number_bits (8 - sp) t) t (8 - sp) v (8 * k) r fits small refl e in
    let whole : written new r ≡ written old sp ++ bits bs = parts_out (written old sp) (bits mid ++ number_bits (8 - sp) t) (written new r) n bs total (out ∙ ap (λ (x : List Bool). (bits mid ++ number_bits (8 - sp) t) ++ x) text) in
    subst (λ (q : ℕ). (written new q ≡ written old sp ++ bits bs) × IsPadded new q) same (whole, padded_from new (bits mid ++ all) r spare e)

-- the number fits so many bits, and a word
pub rest_fits : (bs : List ℕ) (sp t k : ℕ) → 1 ≤ sp → sp < 8 → k ≤ 7 → k ≡ length bs → t < 2 ^ (8 - sp) → (t * 2 ^ (8 * k) + value_of (bits bs) < 2 ^ (8 - sp + 8 * k)) × (t * 2 ^ (8 * k) + value_of (bits bs) < 2 ^ 64)
rest_fits bs sp t k some few le size fits =
    let len : length (bits bs) ≡ 8 * k = omega (arith, length-bits bs) in
    let small : value_of (bits bs) < 2 ^ (8 * k) = subst (λ (q : ℕ). value_of (bits bs) < 2 ^ q) len (value_of_below (bits bs)) in
    let below : t * 2 ^ (8 * k) + value_of (bits bs) < 2 ^ (8 - sp + 8 * k) = all_fits t (8 - sp) (value_of (bits bs)) (8 * k) fits small in
    let p : 2 ^ (8 - sp + 8 * k) ≤ 2 ^ 64 = pow_up (8 - sp + 8 * k) 64 (omega arith) in
    (below, omega arith)
