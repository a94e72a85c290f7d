-- What bytes are in UTF-8, against the characters that they are of: white space, words and ASCII are the same.
use Rattle.std.proofs.Common.{◌≡◌, ℕ, zero, suc, ◌<◌, true, false, not, ltb, List, [], ◌∷◌, ◌++◌, length, get_or, map, None, refl, sym, ap, ◌∙◌, subst, inl, inr, arith}
use Rattle.std.proofs.lemmas.List.{append-nil, length-append}
use Rattle.std.proofs.lemmas.Bool.{cases_Bool, false≢true, and_parts}
use Rattle.std.proofs.lemmas.Bool.Decides.{nat_tests}
use Rattle.std.proofs.lemmas.Str.{encode_ascii, inside_one, length-encode, len_utf8_bounds, encodes-IsAscii, chars-IsAscii, chars_from_encodes, encodes-chars, encodes_same}
use Rattle.std.specs.List.{slice_split, onto_first, filter}
use Rattle.std.specs.Str.{IsUtf8, IsAscii, IsNotAscii, chars}
use lib.Utf8.{encode, encodes}
use Rattle.exi_names.specs.Datatypes.{Representation}
use Rattle.exi_lexical.specs.Values.{form_value, scalar_value}
use Rattle.exi_lexical.specs.Spaces.{is_space, without_front, without_back, before_rest, trimmed, words, has_no_space, is_some_text, all_ascii}
use Rattle.exi_lexical.proofs.Blanks.{space_below, put_before, split_word}

-- ---- the bytes of one character
no_space_all : (xs : List ℕ) → ((k : ℕ) → k < length xs → is_space (get_or xs k 0) ≡ false) → has_no_space xs ≡ true
no_space_all [] h = refl
no_space_all (x ∷ xs) h =
    let first : is_space x ≡ false = h 0 (omega arith) in
    let rest = no_space_all xs (λ k lt. h (suc k) (omega arith)) in
    rw (first, rest) refl

byte_is_none : (c k : ℕ) → is_space c ≡ false → k < length (encode c) → is_space (get_or (encode c) k 0) ≡ false
byte_is_none c k h lt = elim (cases_Bool (is_space (get_or (encode c) k 0))) [
  | inl is ↦
      let below = space_below (get_or (encode c) k 0) is in
      let same : c ≡ get_or (encode c) k 0 = inside_one c [] (encode c) k (sym (append-nil (encode c))) lt below in
      absurd (false≢true (sym h ∙ ap is_space same ∙ is))
  | inr other ↦ other
]

other_bytes : (c : ℕ) → is_space c ≡ false → has_no_space (encode c) ≡ true
other_bytes c h = no_space_all (encode c) (λ k lt. byte_is_none c k h lt)

some_bytes : (c : ℕ) → 0 < length (encode c)
some_bytes c = omega (arith, length-encode c, len_utf8_bounds c)

-- ---- the front
front_word : (w r : List ℕ) → 0 < length w → has_no_space w ≡ true → without_front (w ++ r) ≡ w ++ r
front_word [] r some h = absurd (omega arith)
front_word (x ∷ w) r some h =
    let p = and_parts (not (is_space x)) (has_no_space w) h in
    let none : is_space x ≡ false = grind arith in
    rw none refl

front_letters : (cs : List ℕ) → without_front (encodes cs) ≡ encodes (without_front cs)
front_letters [] = refl
front_letters (c ∷ cs) = elim (cases_Bool (is_space c)) [
  | inl h ↦ rw (encode_ascii c (space_below c h), h) (front_letters cs)
  | inr h ↦ rw h (front_word (encode c) (encodes cs) (some_bytes c) (other_bytes c h))
]

-- ---- the end
before_other : (x : ℕ) (ds : List ℕ) → is_space x ≡ false → before_rest x ds ≡ x ∷ ds
before_other x [] h = rw h refl
before_other x (d ∷ ds) h = refl

before_any : (x : ℕ) (ds : List ℕ) → 0 < length ds → before_rest x ds ≡ x ∷ ds
before_any x [] some = absurd (omega arith)
before_any x (d ∷ ds) some = refl

back_word : (w r : List ℕ) → has_no_space w ≡ true → without_back (w ++ r) ≡ w ++ without_back r
back_word [] r h = refl
back_word (x ∷ w) r h =
    let p = and_parts (not (is_space x)) (has_no_space w) h in
    let none : is_space x ≡ false = grind arith in
    ap (before_rest x) (back_word w r p.1) ∙ before_other x (w ++ without_back r) none

space_before : (c : ℕ) (ds : List ℕ) → is_space c ≡ true → before_rest c (encodes ds) ≡ encodes (before_rest c ds)
space_before c [] h = rw h refl
space_before c (d ∷ ds) h =
    let some = some_bytes d in
    before_any c (encode d ++ encodes ds) (omega (arith, length-append (encode d) (encodes ds))) ∙ rw (encode_ascii c (space_below c h)) refl

back_letters : (cs : List ℕ) → without_back (encodes cs) ≡ encodes (without_back cs)
back_letters [] = refl
back_letters (c ∷ cs) = elim (cases_Bool (is_space c)) [
  | inl h ↦ rw (encode_ascii c (space_below c h)) (ap (before_rest c) (back_letters cs) ∙ space_before c (without_back cs) h)
  | inr h ↦
      back_word (encode c) (encodes cs) (other_bytes c h) ∙ ap (λ (r : List ℕ). encode c ++ r) (back_letters cs) ∙ sym (ap encodes (before_other c (without_back cs) h))
]

trimmed_letters : (cs : List ℕ) → trimmed (encodes cs) ≡ encodes (trimmed cs)
trimmed_letters cs = ap without_back (front_letters cs) ∙ back_letters (without_front cs)

-- what is trimmed as bytes is trimmed as characters
pub chars_trimmed : (text rest : List ℕ) → IsUtf8 text → IsUtf8 rest → rest ≡ trimmed text → chars rest ≡ trimmed (chars text)
chars_trimmed text rest fits some e =
    sym (chars_from_encodes (trimmed (chars text)) rest some (sym (trimmed_letters (chars text)) ∙ ap trimmed (encodes-chars text fits) ∙ sym e))

-- ---- words
put_letters : (c : ℕ) (ps : List (List ℕ)) → put_before (encode c) (map encodes ps) ≡ map encodes (onto_first c ps)
put_letters c [] = ap (λ (w : List ℕ). w ∷ []) (sym (append-nil (encode c)))
put_letters c (p ∷ ps) = refl

split_letters : (cs : List ℕ) → slice_split is_space (encodes cs) ≡ map encodes (slice_split is_space cs)
split_letters [] = refl
split_letters (c ∷ cs) = elim (cases_Bool (is_space c)) [
  | inl h ↦ rw (encode_ascii c (space_below c h), h) (ap (λ (ps : List (List ℕ)). [] ∷ ps) (split_letters cs))
  | inr h ↦
      rw h (split_word (encode c) (encodes cs) (other_bytes c h) ∙ ap (put_before (encode c)) (split_letters cs) ∙ put_letters c (slice_split is_space cs))
]

some_front : (w r : List ℕ) → 0 < length w → is_some_text (w ++ r) ≡ true
some_front [] r some = absurd (omega arith)
some_front (x ∷ w) r some = refl

some_letters : (p : List ℕ) → is_some_text (encodes p) ≡ is_some_text p
some_letters [] = refl
some_letters (c ∷ p) = some_front (encode c) (encodes p) (some_bytes c)

kept_letters : (ps : List (List ℕ)) → filter is_some_text (map encodes ps) ≡ map encodes (filter is_some_text ps)
kept_letters [] = refl
kept_letters (p ∷ ps) = elim (cases_Bool (is_some_text p)) [
  | inl h ↦ rw (some_letters p, h) (ap (λ (qs : List (List ℕ)). encodes p ∷ qs) (kept_letters ps))
  | inr h ↦ rw (some_letters p, h) (kept_letters ps)
]

words_letters : (cs : List ℕ) → words (encodes cs) ≡ map encodes (words cs)
words_letters cs = ap (filter is_some_text) (split_letters cs) ∙ kept_letters (slice_split is_space cs)

words_bytes : (text : List ℕ) → IsUtf8 text → map encodes (words (chars text)) ≡ words text
words_bytes text fits = sym (words_letters (chars text)) ∙ ap words (encodes-chars text fits)

none_same : (ps : List (List ℕ)) → map encodes ps ≡ [] → ps ≡ []
none_same [] h = refl
none_same (p ∷ ps) h = cc

pub no_chars_words : (text : List ℕ) → IsUtf8 text → words text ≡ [] → words (chars text) ≡ []
no_chars_words text fits h = none_same (words (chars text)) (words_bytes text fits ∙ h)

parts_same : (ps qs : List (List ℕ)) → map encodes ps ≡ map encodes qs → ps ≡ qs
parts_same [] [] h = refl
parts_same [] (q ∷ qs) h = cc
parts_same (p ∷ ps) [] h = cc
parts_same (p ∷ ps) (q ∷ qs) h =
    let first : encodes p ≡ encodes q = cc in
    let rest : map encodes ps ≡ map encodes qs = cc in
    let a = encodes_same p q first in
    let b = parts_same ps qs rest in
    cc

-- the first word as bytes is the first word as characters
pub chars_words : (text w r : List ℕ) → IsUtf8 text → IsUtf8 w → IsUtf8 r → words text ≡ w ∷ words r → words (chars text) ≡ chars w ∷ words (chars r)
chars_words text w r fits one more h =
    parts_same (words (chars text)) (chars w ∷ words (chars r)) (words_bytes text fits ∙ h ∙ sym (ap (λ (x : List ℕ). x ∷ map encodes (words (chars r))) (encodes-chars w one) ∙ ap (λ (ws : List (List ℕ)). w ∷ ws) (words_bytes r more)))

-- ---- ASCII
ascii_from : (bs : List ℕ) → IsAscii bs → all_ascii bs ≡ true
ascii_from [] h = refl
ascii_from (b ∷ bs) h =
    let first : b < 128 = h 0 in
    let rest = ascii_from bs (λ i. h (suc i)) in
    grind (arith, nat_tests)

ascii_to : (cs : List ℕ) → all_ascii cs ≡ true → IsAscii cs
ascii_to [] h i = omega arith
ascii_to (c ∷ cs) h zero = let p = and_parts (ltb c 128) (all_ascii cs) h in grind (arith, nat_tests)
ascii_to (c ∷ cs) h (suc i) = ascii_to cs (and_parts (ltb c 128) (all_ascii cs) h).1 i

-- an ASCII text has its bytes as characters
pub ascii_chars : (bs : List ℕ) → IsAscii bs → (chars bs ≡ bs) × (all_ascii bs ≡ true)
ascii_chars bs h = (chars-IsAscii bs h, ascii_from bs h)

above : (bs : List ℕ) → IsNotAscii bs → IsAscii bs → ⊥
above bs (i, high) h = let low = h i in omega arith

pub other_chars : (bs : List ℕ) → IsUtf8 bs → IsNotAscii bs → all_ascii (chars bs) ≡ false
other_chars bs fits not_ascii = elim (cases_Bool (all_ascii (chars bs))) [
  | inl h ↦
      let a = ascii_to (chars bs) h in
      let same : chars bs ≡ bs = sym (encodes-IsAscii (chars bs) a) ∙ encodes-chars bs fits in
      absurd (above bs not_ascii (subst IsAscii same a))
  | inr h ↦ h
]

pub no_ascii : (r : Representation) (text : List ℕ) → IsUtf8 text → IsNotAscii text → None ≡ scalar_value r (chars text)
unfolding scalar_value
no_ascii r text fits other = rw (other_chars text fits other) refl

pub ascii_same : (r : Representation) (text : List ℕ) → IsAscii text → form_value r text ≡ scalar_value r (chars text)
unfolding scalar_value
ascii_same r text h = let a = ascii_chars text h in rw (a.0, a.1) refl
