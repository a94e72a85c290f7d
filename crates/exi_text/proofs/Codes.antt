-- What is written of characters by their code points: runs of ASCII, and codes of one to three octets.
use Rattle.std.proofs.Common.{◌≡◌, ℕ, zero, suc, ◌+◌, ◌-◌, ◌*◌, ◌/◌, ◌%◌, ◌<◌, ◌≤◌, Bool, List, [], ◌∷◌, ◌++◌, length, take, drop, None, refl, sym, ap, ◌∙◌, append_assoc, subst, arith}
use Rattle.std.specs.Char.{encode_utf8}
use Rattle.std.specs.Str.{IsAscii, IsCharBoundary, IsUtf8, chars}
use Rattle.std.proofs.lemmas.Bool.{le-ltb, lt-ltb}
use Rattle.std.proofs.lemmas.List.{length-append, take-append-drop}
use Rattle.std.proofs.lemmas.Str.{IsAscii-append, IsCharBoundary-from_take, IsUtf8-drop, IsUtf8-from_ascii, chars-IsAscii, chars-append, chars_past_char}
use Rattle.exi_bits.specs.declared.align.Align.{Align}
use Rattle.exi_bits.specs.Bits.{bits, number_bits}
use Rattle.exi_bits.specs.Unsigned.{groups, shortest}
use Rattle.exi_bits.specs.Written.{IsWholeBytes}
use Rattle.exi_bits.proofs.BitLaws.{length-bits, number_bits-add, one_byte}
use Rattle.exi_text.specs.Literals.{chars_bits}
use Rattle.exi_items.specs.Fronts.{HoldsFront}
use Rattle.exi_items.proofs.Pieces.{Goes, goes_on, goes_waits}
use Rattle.exi_names.proofs.Texts.{chars_of_empty}
use Rattle.exi_text.proofs.Runs.{ascii_octet}
use Rattle.exi_text.proofs.Sets.{next_chars, no_chars}

-- ---- codes
pub code_one : (c d : ℕ) → d ≡ c → d < 128 → number_bits 8 d ≡ bits (shortest c)
code_one c d e small = sym (ap bits (ascii_octet d small) ∙ one_byte d) ∙ ap (λ (x : ℕ). bits (shortest x)) e

two_bytes : (a b : ℕ) → a < 256 → b < 256 → number_bits 16 (a * 256 + b) ≡ bits (a ∷ b ∷ [])
unfolding bits
two_bytes a b f g =
    let high : (a * 256 + b) / 256 ≡ a = omega arith in
    let low : (a * 256 + b) % 256 ≡ b = omega arith in
    number_bits-add 8 8 (a * 256 + b) (omega arith) ∙ ap (λ (x : ℕ). number_bits 8 x ++ number_bits 8 ((a * 256 + b) % 256)) high ∙ ap (λ (x : ℕ). number_bits 8 a ++ number_bits 8 x) low ∙ ap (λ (t : List Bool). number_bits 8 a ++ t) (sym (one_byte b))

three_bytes : (a b d : ℕ) → a < 256 → b < 256 → d < 256 → number_bits 24 (a * 65536 + b * 256 + d) ≡ bits (a ∷ b ∷ d ∷ [])
unfolding bits
three_bytes a b d f g h =
    let high : (a * 65536 + b * 256 + d) / 65536 ≡ a = omega arith in
    let low : (a * 65536 + b * 256 + d) % 65536 ≡ b * 256 + d = omega arith in
    number_bits-add 8 16 (a * 65536 + b * 256 + d) (omega arith) ∙ ap (λ (x : ℕ). number_bits 8 x ++ number_bits 16 ((a * 65536 + b * 256 + d) % 65536)) high ∙ ap (λ (x : ℕ). number_bits 8 a ++ number_bits 16 x) low ∙ ap (λ (t : List Bool). number_bits 8 a ++ t) (two_bytes b d g h)

two_groups : (c : ℕ) → 128 ≤ c → c / 128 < 128 → number_bits 16 ((c % 128 + 128) * 256 + c / 128) ≡ bits (shortest c)
unfolding groups
two_groups c le lt = two_bytes (c % 128 + 128) (c / 128) (omega arith) (omega arith) ∙ rw (le-ltb c 128 le, lt-ltb (c / 128) 128 lt) refl

pub code_two : (c d : ℕ) → d ≡ c → 128 ≤ d → d / 128 < 128 → number_bits 16 ((d % 128 + 128) * 256 + d / 128) ≡ bits (shortest c)
code_two c d e le lt = two_groups d le lt ∙ ap (λ (x : ℕ). bits (shortest x)) e

three_groups : (c : ℕ) → 128 ≤ c → 128 ≤ c / 128 → c < 1114112 → number_bits 24 ((c % 128 + 128) * 65536 + (c / 128 % 128 + 128) * 256 + c / 128 / 128) ≡ bits (shortest c)
unfolding groups
three_groups c le more few =
    let last : c / 128 / 128 < 128 = omega arith in
    three_bytes (c % 128 + 128) (c / 128 % 128 + 128) (c / 128 / 128) (omega arith) (omega arith) (omega arith) ∙ rw (le-ltb c 128 le, le-ltb (c / 128) 128 more, lt-ltb (c / 128 / 128) 128 last) refl

pub code_three : (c d : ℕ) → d ≡ c → 128 ≤ d → 128 ≤ d / 128 → c < 1114112 → number_bits 24 ((d % 128 + 128) * 65536 + (d / 128 % 128 + 128) * 256 + d / 128 / 128) ≡ bits (shortest c)
code_three c d e le more few = three_groups d le more (omega (arith, e, few)) ∙ ap (λ (x : ℕ). bits (shortest x)) e

-- whole bytes stay so
pub still_whole : (a : Align) (old new : List Bool) (os : List ℕ) → IsWholeBytes a old → new ≡ old ++ bits os → IsWholeBytes a new
still_whole a old new os whole e = λ h. let k = whole h in omega (arith, k, ap length e, length-append old (bits os), length-bits os)

-- ---- runs of ASCII
taken_more : (n m : ℕ) (xs : List ℕ) → n ≤ length xs → take (n + m) xs ≡ take n xs ++ take m (drop n xs)
taken_more zero m xs le = let e : 0 + m ≡ m = omega arith in ap (λ (k : ℕ). take k xs) e
taken_more (suc n) m [] le = absurd (omega (arith, le))
taken_more (suc n) m (x ∷ xs) le = let e : suc n + m ≡ suc (n + m) = omega arith in ap (λ (k : ℕ). take k (x ∷ xs)) e ∙ ap (λ (r : List ℕ). x ∷ r) (taken_more n m xs (omega (arith, le)))

-- eight more of them
pub ascii_more : (xs : List ℕ) (n : ℕ) → n ≤ length xs → IsAscii (take n xs) → IsAscii (take (n + 8 - n) (drop n xs)) → IsAscii (take (n + 8) xs)
ascii_more xs n le a b =
    let k : n + 8 - n ≡ 8 = omega arith in
    subst (λ (t : List ℕ). IsAscii t) (sym (taken_more n 8 xs le)) (IsAscii-append (take n xs) (take 8 (drop n xs)) a (subst (λ (m : ℕ). IsAscii (take m (drop n xs))) k b))

ascii_then : (a : Align) (xs ys : List ℕ) → IsAscii xs → chars_bits None a (xs ++ ys) ≡ bits xs ++ chars_bits None a ys
unfolding chars_bits bits
ascii_then a [] ys ascii = refl
ascii_then a (c ∷ cs) ys ascii = rw (ascii_octet c (ascii 0), ascii_then a cs ys (λ i. ascii (suc i))) (ap (λ (t : List Bool). t ++ (bits cs ++ chars_bits None a ys)) (one_byte c) ∙ sym (append_assoc (number_bits 8 c) (bits cs) (chars_bits None a ys)))

pub front_bits : (a : Align) (n : ℕ) (bs : List ℕ) → IsAscii (take n bs) → chars_bits None a (chars bs) ≡ bits (take n bs) ++ chars_bits None a (chars (drop n bs))
front_bits a n bs ascii =
    let parts : chars bs ≡ take n bs ++ chars (drop n bs) = ap chars (sym (take-append-drop n bs)) ∙ chars-append (take n bs) (drop n bs) (IsUtf8-from_ascii (take n bs) ascii) ∙ ap (λ (x : List ℕ). x ++ chars (drop n bs)) (chars-IsAscii (take n bs) ascii) in
    ap (λ (x : List ℕ). chars_bits None a x) parts ∙ ascii_then a (take n bs) (chars (drop n bs)) ascii

pub behind_ascii : (bs : List ℕ) (n : ℕ) → IsUtf8 bs → n ≤ length bs → IsAscii (take n bs) → IsCharBoundary bs n
behind_ascii bs n u le ascii = IsCharBoundary-from_take bs n u le (IsUtf8-from_ascii (take n bs) ascii)

pub behind_utf8 : (bs : List ℕ) (n : ℕ) → IsUtf8 bs → n ≤ length bs → IsAscii (take n bs) → IsUtf8 (drop n bs)
behind_utf8 bs n u le ascii = IsUtf8-drop bs n u (behind_ascii bs n u le ascii)

-- ---- one run, and the character behind it
module _ (a : Align) (n : ℕ) (bs : List ℕ) where
  pub run_added : (old total out new : List Bool) (os piece : List ℕ) → IsAscii (take n bs) → os ≡ piece → piece ≡ take n bs → new ≡ out ++ bits os → Goes old total (chars_bits None a (chars bs)) out → Goes old total (chars_bits None a (chars (drop n bs))) new
  run_added old total out new os piece ascii e f w g = goes_on old total (bits (take n bs)) (chars_bits None a (chars (drop n bs))) (chars_bits None a (chars bs)) out new g (front_bits a n bs ascii) (w ∙ ap (λ (x : List ℕ). out ++ bits x) (e ∙ f))

  pub next_code : (back more : List ℕ) (c : ℕ) → IsUtf8 (drop n bs) → back ≡ drop n bs → back ≡ encode_utf8 c ++ more → chars_bits None a (chars (drop n bs)) ≡ bits (shortest c) ++ chars_bits None a (chars more)
  next_code back more c u e p = next_chars None a (chars (drop n bs)) (chars more) c (chars_past_char (drop n bs) more c u (sym e ∙ p))

  pub no_code : (back : List ℕ) → back ≡ drop n bs → length back ≡ 0 → chars_bits None a (chars (drop n bs)) ≡ []
  no_code back e none = no_chars None a (chars (drop n bs)) (ap chars (sym e) ∙ chars_of_empty back none)

-- nothing more was added
pub goes_no_further : (old total left out new : List Bool) → new ≡ out → Goes old total left out → HoldsFront old total new
goes_no_further old total left out new e g = subst (λ (x : List Bool). HoldsFront old total x) (sym e) (goes_waits old total left out g)
