-- What stands in front of a mark is a part of the bytes.
use Rattle.std.proofs.Common.{◌≡◌, ◌≤◌, ℕ, suc, Bool, true, false, eqb, min, List, [], ◌∷◌, ◌++◌, length, take, drop, refl, sym, ap, ◌∙◌, subst, arith, inl, inr}
use Rattle.std.specs.Prelude.{Option, Some, None, codes}
use Rattle.std.specs.Str.{IsAscii, IsUtf8, bytes_eq, is_utf8}
use Rattle.std.proofs.lemmas.Str.{IsUtf8-from_ascii, IsUtf8-from_is_utf8, chars-IsAscii, is_utf8-from_IsUtf8}
use Rattle.std.proofs.lemmas.Bool.{cases_Bool, eqb-true}
use Rattle.std.proofs.lemmas.List.{append-nil}
use Rattle.std.proofs.lemmas.Slice.Eq.{bytes_eq-Decides}
use Rattle.exi_calendar.specs.Reading.{◌>>=◌, past}
use Rattle.exi_digits.specs.Splits.{before}
use Rattle.exi_evtext.specs.Reading.{characters_in, content_at, decoded, event_of, integer_characters, item_of, opened_at, opened_value, scalar_of, value_at, value_of}
use Rattle.exi_evtext.specs.Parsing.{front}

pub before_within : (test : ℕ → Bool) (bytes : List ℕ) → length (before test bytes) ≤ length bytes
before_within test [] = omega arith
before_within test (b ∷ bytes) =
    let k = before_within test bytes in
    elim (cases_Bool (test b)) [
      | inl h ↦ rw h (omega arith)
      | inr h ↦ rw h (omega (arith, k))
    ]

-- bytes of which there are some
pub record SomeBytes (bytes : List ℕ) : Type 0 where
  pub byte : ℕ
  pub more : List ℕ
  pub parts : bytes ≡ byte ∷ more

pub some_bytes : (bytes : List ℕ) → (length bytes ≡ 0 → ⊥) → SomeBytes bytes
some_bytes [] h = absurd (h refl)
some_bytes (b ∷ more) h = record { byte = b; more = more; parts = refl }

-- the first two of them
pub two_front : (bytes : List ℕ) → take (min (length bytes) 2) bytes ≡ take 2 bytes
two_front [] = refl
two_front (a ∷ []) = refl
two_front (a ∷ b ∷ more) = let k : min (suc (suc (length more))) 2 ≡ 2 = omega arith in ap (λ (n : ℕ). take n (a ∷ b ∷ more)) k

pub two_back : (bytes : List ℕ) → drop (min (length bytes) 2) bytes ≡ drop 2 bytes
two_back [] = refl
two_back (a ∷ []) = refl
two_back (a ∷ b ∷ more) = let k : min (suc (suc (length more))) 2 ≡ 2 = omega arith in ap (λ (n : ℕ). drop n (a ∷ b ∷ more)) k

-- bytes that are not UTF-8
pub not_utf8 : (bytes : List ℕ) → (IsUtf8 bytes → ⊥) → is_utf8 bytes ≡ false
not_utf8 bytes h = elim (cases_Bool (is_utf8 bytes)) [
  | inl k ↦ absurd (h (IsUtf8-from_is_utf8 bytes k))
  | inr k ↦ k
]

-- one mark behind another
pub past_both : (a b : ℕ) (s : List ℕ) → past (a ∷ b ∷ []) s ≡ past (a ∷ []) s >>= past (b ∷ [])
unfolding past
past_both a b [] = refl
past_both a b (c ∷ s) = elim (cases_Bool (eqb c a)) [
  | inl h ↦ rw h refl
  | inr h ↦ rw h refl
]

-- what a mark in front says of the bytes
pub past_mark : (a : ℕ) (s behind : List ℕ) → past (a ∷ []) s ≡ Some behind → s ≡ a ∷ behind
unfolding past
past_mark a [] behind e = absurd cc
past_mark a (c ∷ s) behind e = elim (cases_Bool (eqb c a)) [
  | inl h ↦ let k : Some s ≡ Some behind = rw h at e in let same : s ≡ behind = cc in rw (eqb-true c a h, same) refl
  | inr h ↦ let k : None ≡ Some behind = rw h at e in absurd cc
]

-- a text of ASCII that stands for itself
pub opened_plain : (s run rest behind : List ℕ) → IsAscii run → front run (content_at false rest) ≡ content_at false s → past (34 ∷ []) rest ≡ Some behind → opened_at s ≡ Some (run, behind)
unfolding decoded
opened_plain s run rest behind ascii read mark =
    let quote : content_at false rest ≡ Some ([], behind) = ap (content_at false) (past_mark 34 rest behind mark) in
    let content : content_at false s ≡ Some (run, behind) = sym read ∙ ap (front run) quote ∙ ap (λ (x : List ℕ). Some (x, behind)) (append-nil run) in
    ap (λ (o : Option (List ℕ × List ℕ)). o >>= decoded) content ∙ rw (is_utf8-from_IsUtf8 run (IsUtf8-from_ascii run ascii), chars-IsAscii run ascii) refl

-- a text as a value
pub value_text : (s inside : List ℕ) → s ≡ codes "text \"" ++ inside → value_at s ≡ opened_value inside
unfolding value_of item_of past
value_text s inside e = ap value_at e

-- the word of characters
pub characters_said : (word rest : List ℕ) → bytes_eq word (67 ∷ 72 ∷ []) ≡ true → event_of word rest ≡ characters_in rest
unfolding event_of
characters_said word rest is =
    subst (λ (w : List ℕ). event_of w rest ≡ characters_in rest) (sym ((bytes_eq-Decides word (67 ∷ 72 ∷ [])).0 is)) refl

-- characters that are an integer
pub integer_said : (s inside : List ℕ) → s ≡ codes " int \"" ++ inside → characters_in s ≡ integer_characters inside
unfolding value_of item_of scalar_of past
integer_said s inside e = ap characters_in e
