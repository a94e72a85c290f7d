-- Characters counted by the bytes that begin one.
use Rattle.std.proofs.Common.{◌≡◌, ◌+◌, ◌%◌, ◌/◌, ◌≤◌, ◌<◌, ℕ, Bool, true, false, cond, ◌||◌, nat_lt, nat_le, inl, inr, List, [], ◌∷◌, length, refl, sym, ap, ◌∙◌, arith, lit<}
use Rattle.std.specs.List.{count_by}
use Rattle.std.specs.Str.{chars, IsUtf8}
use Rattle.std.proofs.Math.Nat.{mod-lt}
use Rattle.std.proofs.lemmas.Bool.{cases_lt, lt-ltb, le-ltb, le-leb, lt-leb}
use Rattle.std.proofs.lemmas.List.Sums.{sum_by-append}
use Rattle.std.proofs.lemmas.Str.{encodes-chars}
use lib.Utf8.{encode, encodes}

-- whether the byte is the first of a character
abbrev pub begins : ℕ → Bool
begins byte = nat_lt byte 0x80 || nat_le 0xC0 byte

low : (byte : ℕ) → byte < 0x80 → begins byte ≡ true
low byte h = rw (lt-ltb byte 0x80 h) refl

high : (byte : ℕ) → 0xC0 ≤ byte → begins byte ≡ true
high byte h = rw (le-ltb byte 0x80 (omega (arith, h)), le-leb 0xC0 byte h) refl

later : (bits : ℕ) → begins (128 + bits % 64) ≡ false
later bits =
    let small : bits % 64 < 64 = mod-lt bits (lit< tt) in
    rw (le-ltb (128 + bits % 64) 0x80 (omega (arith, small)), lt-leb 0xC0 (128 + bits % 64) (omega (arith, small))) refl

one : (c : ℕ) → count_by begins (encode c) ≡ 1
unfolding encode
one c = elim (cases_lt c 128) [
  | inl a ↦ rw (lt-ltb c 128 a, low c a) refl
  | inr a ↦ elim (cases_lt c 2048) [
    | inl b ↦ rw (le-ltb c 128 a, lt-ltb c 2048 b, high (192 + c / 64) (omega arith), later c) refl
    | inr b ↦ elim (cases_lt c 65536) [
      | inl d ↦ rw (le-ltb c 128 a, le-ltb c 2048 b, lt-ltb c 65536 d, high (224 + c / 4096) (omega arith), later (c / 64), later c) refl
      | inr d ↦ rw (le-ltb c 128 a, le-ltb c 2048 b, le-ltb c 65536 d, high (240 + c / 262144) (omega arith), later (c / 4096), later (c / 64), later c) refl
    ]
  ]
]

all : (cs : List ℕ) → count_by begins (encodes cs) ≡ length cs
all [] = refl
all (c ∷ cs) = omega (arith, sum_by-append (λ byte. cond (begins byte) 1 0) (encode c) (encodes cs), one c, all cs)

pub begins-chars : (bs : List ℕ) → IsUtf8 bs → count_by begins bs ≡ length (chars bs)
begins-chars bs utf8 = ap (λ t. count_by begins t) (sym (encodes-chars bs utf8)) ∙ all (chars bs)
