-- Code points of an octet, two or three, in the word that stands at the place.
use Rattle.std.proofs.Common.{◌≡◌, ℕ, ◌+◌, ◌*◌, ◌-◌, ◌^◌, ◌<◌, ◌≤◌, true, List, get_or, take, drop, Some, Ok, refl, sym, ap, ◌∙◌, arith}
use Rattle.std.specs.Int.{w64, to_be_bytes}
use Rattle.std.proofs.lemmas.Bool.{le-ltb, lt-ltb}
use Rattle.std.proofs.lemmas.List.{drop-drop}
use Rattle.exi_bits.specs.declared.align.Align.TheVariants as align
use Rattle.exi_bits.specs.Bits.{Spot, at_bit, bits, left, moved, number_at, octets_of, rest, value_of}
use Rattle.exi_bits.specs.Unsigned.{groups_at, narrow_groups_at, unsigned_at}
use Rattle.exi_bits.proofs.BitLaws.{value_below_at}
use Rattle.exi_bits.proofs.OctetLaws.{word_octets}
use Rattle.exi_bits.proofs.Spelled.{length-rest}
use Rattle.exi_names.specs.Characters.{is_xml_char}
use Rattle.exi_text.specs.Literals.{code_at}
use Rattle.exi_text.proofs.Runs.{word_taken}

-- the octet at a spot
abbrev octet : Spot → ℕ
octet s = value_of (take 8 (rest s))

octet_fits : (s : Spot) → octet s < 256
octet_fits s = value_below_at 8 s.place (bits s.bytes)

-- ---- one of them is read
one_read : (s : Spot) → 8 ≤ left s → octet s < 128 → is_xml_char (octet s) ≡ true → code_at s ≡ Ok (octet s, moved s 8)
unfolding code_at unsigned_at narrow_groups_at groups_at number_at
one_read s long small xml = rw (le-ltb (left s) 8 long, lt-ltb (octet s) 128 small, lt-ltb (octet s) (2 ^ 128) (omega (arith, small)), xml) refl

two_read : (s : Spot) → 16 ≤ left s → 128 ≤ octet s → octet (moved s 8) < 128 → is_xml_char (octet s - 128 + 128 * octet (moved s 8)) ≡ true → code_at s ≡ Ok (octet s - 128 + 128 * octet (moved s 8), moved (moved s 8) 8)
unfolding code_at unsigned_at narrow_groups_at groups_at number_at
two_read s long more small xml =
    let f = octet_fits s in
    let narrow : octet s - 128 + 128 * octet (moved s 8) < 2 ^ 128 = omega (arith, f, small) in
    rw (le-ltb (left s) 8 (omega (arith, long)), le-ltb (octet s) 128 more, le-ltb (left (moved s 8)) 8 (omega (arith, long)), lt-ltb (octet (moved s 8)) 128 small, lt-ltb (octet s - 128 + 128 * octet (moved s 8)) (2 ^ 128) narrow, xml) refl

three_read : (s : Spot) → 24 ≤ left s → 128 ≤ octet s → 128 ≤ octet (moved s 8) → octet (moved (moved s 8) 8) < 128 → is_xml_char (octet s - 128 + 128 * (octet (moved s 8) - 128 + 128 * octet (moved (moved s 8) 8))) ≡ true
    → code_at s ≡ Ok (octet s - 128 + 128 * (octet (moved s 8) - 128 + 128 * octet (moved (moved s 8) 8)), moved (moved (moved s 8) 8) 8)
unfolding code_at unsigned_at narrow_groups_at groups_at number_at
three_read s long more again small xml =
    let f = octet_fits s in
    let g = octet_fits (moved s 8) in
    let narrow : octet s - 128 + 128 * (octet (moved s 8) - 128 + 128 * octet (moved (moved s 8) 8)) < 2 ^ 128 = omega (arith, f, g, small) in
    rw (le-ltb (left s) 8 (omega (arith, long)), le-ltb (octet s) 128 more, le-ltb (left (moved s 8)) 8 (omega (arith, long)), le-ltb (octet (moved s 8)) 128 again, le-ltb (left (moved (moved s 8) 8)) 8 (omega (arith, long)), lt-ltb (octet (moved (moved s 8) 8)) 128 small, lt-ltb (octet s - 128 + 128 * (octet (moved s 8) - 128 + 128 * octet (moved (moved s 8) 8))) (2 ^ 128) narrow, xml) refl

-- ---- out of a word
record Stand (os : List ℕ) (s : Spot) : Type 0 where
  long : 64 ≤ left s
  first : get_or os 0 0 ≡ octet s
  second : get_or os 1 0 ≡ octet (moved s 8)
  third : get_or os 2 0 ≡ octet (moved (moved s 8) 8)

stand : (v : ℕ) (os : List ℕ) (s t : Spot) → number_at 64 align.Bits s ≡ Some (v, t) → os ≡ to_be_bytes w64 v → Stand os s
unfolding octets_of
stand v os s t e spelled =
    let w = word_taken s v t e in
    let all : os ≡ octets_of 8 (rest s) = spelled ∙ ap (λ (k : ℕ). to_be_bytes w64 k) w.1 ∙ word_octets (rest s) (omega (arith, w.0, length-rest s)) in
    let behind : drop 8 (rest s) ≡ rest (moved s 8) = drop-drop 8 s.place (bits s.bytes) in
    let further : drop 8 (rest (moved s 8)) ≡ rest (moved (moved s 8) 8) = drop-drop 8 (s.place + 8) (bits s.bytes) in
    record {
      long = w.0;
      first = ap (λ (x : List ℕ). get_or x 0 0) all;
      second = ap (λ (x : List ℕ). get_or x 1 0) all ∙ ap (λ t. value_of (take 8 t)) behind;
      third = ap (λ (x : List ℕ). get_or x 2 0) all ∙ ap (λ t. value_of (take 8 (drop 8 t))) behind ∙ ap (λ t. value_of (take 8 t)) further;
    }

-- a character, and the place behind it
placed : (s t u : Spot) (c d p n behind : ℕ) → code_at s ≡ Ok (d, at_bit s p) → c ≡ d → p + n ≡ s.place + 64 → behind ≡ s.place + 64 → t ≡ moved s 64 → u ≡ at_bit t (behind - n) → code_at s ≡ Ok (c, u)
placed s t u c d p n behind read same at from w e =
    let q : p ≡ behind - n = omega (arith, at, from) in
    read ∙ ap (λ (k : ℕ). Ok (k, at_bit s p)) (sym same) ∙ ap (λ (k : ℕ). Ok (c, at_bit s k)) q ∙ ap (λ (x : Spot). Ok (c, x)) (sym (e ∙ ap (λ (x : Spot). at_bit x (behind - n)) w))

module _ (v : ℕ) (os : List ℕ) (s t u : Spot) (c a b d behind : ℕ) where
  pub one_code : number_at 64 align.Bits s ≡ Some (v, t) → os ≡ to_be_bytes w64 v → a ≡ get_or os 0 0 → a < 128 → c ≡ a → is_xml_char a ≡ true → behind ≡ s.place + 64 → t ≡ moved s 64 → u ≡ at_bit t (behind - 56) → code_at s ≡ Ok (c, u)
  one_code e spelled first small is xml from w f =
      let k = stand v os s t e spelled in
      let x : a ≡ octet s = first ∙ k.first in
      placed s t u c (octet s) (s.place + 8) 56 behind (one_read s (omega (arith, k.long)) (omega (arith, x, small)) (rw x at xml)) (is ∙ x) (omega arith) from w f

  pub two_code : number_at 64 align.Bits s ≡ Some (v, t) → os ≡ to_be_bytes w64 v → a ≡ get_or os 0 0 → b ≡ get_or os 1 0 → 128 ≤ a → b < 128 → c ≡ a - 128 + 128 * b → is_xml_char (a - 128 + 128 * b) ≡ true → behind ≡ s.place + 64 → t ≡ moved s 64 → u ≡ at_bit t (behind - 48) → code_at s ≡ Ok (c, u)
  two_code e spelled first second more small is xml from w f =
      let k = stand v os s t e spelled in
      let x : a ≡ octet s = first ∙ k.first in
      let y : b ≡ octet (moved s 8) = second ∙ k.second in
      placed s t u c (octet s - 128 + 128 * octet (moved s 8)) (s.place + 8 + 8) 48 behind (two_read s (omega (arith, k.long)) (omega (arith, x, more)) (omega (arith, y, small)) (rw (x, y) at xml)) (rw (x, y) at is) (omega arith) from w f

  pub three_code : number_at 64 align.Bits s ≡ Some (v, t) → os ≡ to_be_bytes w64 v → a ≡ get_or os 0 0 → b ≡ get_or os 1 0 → d ≡ get_or os 2 0 → 128 ≤ a → 128 ≤ b → d < 128 → c ≡ a - 128 + 128 * (b - 128 + 128 * d) → is_xml_char (a - 128 + 128 * (b - 128 + 128 * d)) ≡ true → behind ≡ s.place + 64 → t ≡ moved s 64 → u ≡ at_bit t (behind - 40) → code_at s ≡ Ok (c, u)
  three_code e spelled first second third more again small is xml from w f =
      let k = stand v os s t e spelled in
      let x : a ≡ octet s = first ∙ k.first in
      let y : b ≡ octet (moved s 8) = second ∙ k.second in
      let z : d ≡ octet (moved (moved s 8) 8) = third ∙ k.third in
      placed s t u c (octet s - 128 + 128 * (octet (moved s 8) - 128 + 128 * octet (moved (moved s 8) 8))) (s.place + 8 + 8 + 8) 40 behind (three_read s (omega (arith, k.long)) (omega (arith, x, more)) (omega (arith, y, again)) (omega (arith, z, small)) (rw (x, y, z) at xml)) (rw (x, y, z) at is) (omega arith) from w f
