-- A text that is added piece by piece.
use Rattle.std.proofs.Common.{◌≡◌, ℕ, suc, ◌+◌, ◌-◌, ◌/◌, ◌%◌, ◌<◌, ◌≤◌, List, [], ◌∷◌, ◌++◌, length, get_or, replicate, refl, sym, ap, ◌∙◌, subst, append_assoc, arith, inl, inr, Result, Ok, Err}
use Rattle.std.specs.Prelude.{decimal, reverse, IsAscii, encode_utf8, is_ok, OnOk, OnErr, if◌then◌else◌}
use Rattle.std.proofs.lemmas.List.{append-nil, reverse-append, get_or_at, get_or-reverse, get_or_past, length-reverse}
use Rattle.std.proofs.lemmas.Bool.{cases_lt}
use Rattle.std.proofs.lemmas.Str.Ascii.{encode_ascii}
use Rattle.std.proofs.lemmas.Fmt.{decimal_digit, decimal_step}
use Rattle.exi_digits.specs.Digits.{padded}
use Rattle.exi_digits.specs.Pushed.{HoldsFront}

-- of the text all but what is left was added
pub record Pushing (old text left new : List ℕ) : Type 0 where
  pub front : List ℕ
  pub parts : text ≡ front ++ left
  pub held : new ≡ old ++ front

pub pushing_none : (old text : List ℕ) → Pushing old text text old
pushing_none old text = record { front = []; parts = refl; held = sym (append-nil old) }

pub pushing_more : (old text left new newer : List ℕ) (piece : List ℕ) → Pushing old text (piece ++ left) new → newer ≡ new ++ piece → Pushing old text left newer
pushing_more old text left new newer piece p e =
    record {
      front = p.front ++ piece;
      parts = p.parts ∙ sym (append_assoc p.front piece left);
      held = e ∙ ap (λ (t : List ℕ). t ++ piece) p.held ∙ append_assoc old p.front piece;
    }

pub pushing_all : (old text new : List ℕ) → Pushing old text [] new → new ≡ old ++ text
pushing_all old text new p = p.held ∙ ap (λ (t : List ℕ). old ++ t) (sym (append-nil p.front) ∙ sym p.parts)

pub pushing_front : (old text left new newer : List ℕ) → Pushing old text left new → newer ≡ new → HoldsFront old text newer
pushing_front old text left new newer p e = record { front = p.front; behind = left; parts = p.parts; held = e ∙ p.held }

-- a character that is left is below 128, where those of the text are
pub left_ascii : (old text left new : List ℕ) (c : ℕ) → IsAscii text → Pushing old text (c ∷ left) new → encode_utf8 c ≡ c ∷ []
left_ascii old text left new c ascii p =
    let low : get_or text (length p.front) 0 < 128 = ascii (length p.front) in
    let at : get_or text (length p.front) 0 ≡ c = ap (λ (t : List ℕ). get_or t (length p.front) 0) p.parts ∙ get_or_at p.front c left 0 (length p.front) refl in
    encode_ascii c (omega arith)

pub reverse_ascii : (text : List ℕ) → IsAscii text → IsAscii (reverse text)
reverse_ascii text ascii k =
    elim (cases_lt k (length text)) [
      | inl low ↦ rw get_or-reverse (ascii (length text - 1 - k))
      | inr high ↦ let past : length (reverse text) ≤ k = omega (arith, length-reverse text) in rw get_or_past (omega arith)
    ]

pub reverse_push : (xs : List ℕ) (x : ℕ) → reverse (xs ++ x ∷ []) ≡ x ∷ reverse xs
reverse_push xs x = reverse-append xs (x ∷ [])

pub one_zero : (width count : ℕ) (text : List ℕ) → count < width → replicate (width - count) 48 ++ text ≡ 48 ∷ (replicate (width - (count + 1)) 48 ++ text)
one_zero width count text lt = let e : width - count ≡ suc (width - (count + 1)) = omega arith in rw e refl

pub no_zeros : (width count : ℕ) (text : List ℕ) → width ≤ count → replicate (width - count) 48 ++ text ≡ text
no_zeros width count text le = let e : width - count ≡ 0 = omega arith in rw e refl

-- the last piece
pub last_ok : {E : Type 0} (r : Result (Unit {0}) E) (old text piece new newer : List ℕ) → Pushing old text piece new → newer ≡ (if is_ok r then new ++ piece else new) → OnOk r (newer ≡ old ++ text)
last_ok (Ok x) old text piece new newer p e =
    pushing_all old text newer (pushing_more old text [] new newer piece (subst (λ (t : List ℕ). Pushing old text t new) (sym (append-nil piece)) p) e)
last_ok (Err x) old text piece new newer p e = tt

pub last_err : {E : Type 0} (r : Result (Unit {0}) E) (old text piece new newer : List ℕ) → Pushing old text piece new → newer ≡ (if is_ok r then new ++ piece else new) → OnErr r (HoldsFront old text newer)
last_err (Ok x) old text piece new newer p e = tt
last_err (Err x) old text piece new newer p e = pushing_front old text piece new newer p e

pub encode_zero : encode_utf8 48 ≡ 48 ∷ []
encode_zero = encode_ascii 48 (omega arith)

-- ---- two digits
pub padded_two : (n : ℕ) → n < 100 → padded 2 n ≡ (48 + n / 10) ∷ (48 + n % 10) ∷ []
padded_two n low = elim (cases_lt n 10) [
  | inl small ↦
      let d = decimal_digit n small in
      let q : n / 10 ≡ 0 = omega arith in
      let r : n % 10 ≡ n = omega arith in
      rw (d, q, r) refl
  | inr large ↦
      let d : decimal n ≡ decimal (n / 10) ++ ((48 + n % 10) ∷ []) = decimal_step n large (omega arith) in
      let e : decimal (n / 10) ≡ (48 + n / 10) ∷ [] = decimal_digit (n / 10) (omega arith) in
      rw (d, e) refl
]

-- the first digit was added
pub first_of_two : (old new : List ℕ) (n c : ℕ) → n < 100 → c ≡ 48 + n / 10 → new ≡ old ++ encode_utf8 c → Pushing old (padded 2 n) (encode_utf8 (48 + n % 10)) new
first_of_two old new n c low char e =
    let a : encode_utf8 c ≡ (48 + n / 10) ∷ [] = ap encode_utf8 char ∙ encode_ascii (48 + n / 10) (omega arith) in
    let b : encode_utf8 (48 + n % 10) ≡ (48 + n % 10) ∷ [] = encode_ascii (48 + n % 10) (omega arith) in
    let start : Pushing old (padded 2 n) ((48 + n / 10) ∷ (48 + n % 10) ∷ []) old = subst (λ (t : List ℕ). Pushing old (padded 2 n) t old) (padded_two n low) (pushing_none old (padded 2 n)) in
    rw b (pushing_more old (padded 2 n) ((48 + n % 10) ∷ []) old new ((48 + n / 10) ∷ []) start (e ∙ ap (λ (t : List ℕ). old ++ t) a))
