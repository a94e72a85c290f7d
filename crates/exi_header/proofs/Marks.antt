-- The bits before the options document.
use Rattle.std.proofs.Common.{◌≡◌, ℕ, ◌+◌, ◌*◌, ◌-◌, ◌/◌, ◌%◌, ◌^◌, ◌<◌, ◌≤◌, Bool, true, false, cond, eqb, ltb, List, [], ◌∷◌, ◌++◌, length, take, drop, append_assoc, Option, Some, None, Result, Ok, Err, OnOk, refl, sym, ap, ◌∙◌, subst, inl, inr, arith}
use Rattle.std.proofs.lemmas.Bool.{cases_lt, eq-eqb, lt-ltb, le-ltb, ne_eqb}
use Rattle.std.proofs.lemmas.List.{drop-drop, drop_at, length-drop, length-take}
use Rattle.exi_bits.specs.declared.align.Align.TheVariants as align
use Rattle.exi_bits.specs.declared.fault.Kind.{Kind}
use Rattle.exi_bits.specs.declared.fault.Kind.TheVariants as kind
use Rattle.exi_bits.specs.Bits.{IsBytes, Spot, bits, left, moved, number_at, number_bits, rest, value_of}
use Rattle.exi_bits.specs.Unsigned.{◌>>=◌, at_spot, field_at, needed}
use Rattle.exi_bits.proofs.BitLaws.{length-bits}
use Rattle.exi_bits.proofs.InBytes.{number_read}
use Rattle.exi_header.specs.Headers.{behind, behind_cookie, cookie, known_at, mark_bits, marks_at}

pub rest_moved : (s : Spot) (text more : List Bool) → rest s ≡ text ++ more → rest (moved s (length text)) ≡ more
rest_moved s text more e = sym (drop-drop (length text) s.place (bits s.bytes)) ∙ ap (λ (x : List Bool). drop (length text) x) e ∙ drop_at text more (length text) refl

-- a number at the front
reads : (n v : ℕ) (s : Spot) (more : List Bool) → IsBytes s.bytes → v < 2 ^ n → rest s ≡ number_bits n v ++ more → number_at n align.Bits s ≡ Some (v, moved s n)
reads n v s more fits low e = number_read n v align.Bits s more fits (λ e. absurd cc) low e

known : (n v : ℕ) (k : Kind) (s : Spot) (more : List Bool) → IsBytes s.bytes → v < 2 ^ n → rest s ≡ number_bits n v ++ more → known_at n v k s ≡ Ok (moved s n)
unfolding known_at
known n v k s more fits low e = rw (reads n v s more fits low e, eq-eqb v v refl) refl

-- ---- the cookie
pub cookie_is_passed : (s : Spot) (more : List Bool) → IsBytes s.bytes → rest s ≡ number_bits 32 cookie ++ more → behind_cookie s ≡ moved s 32
unfolding behind_cookie
cookie_is_passed s more fits e = rw (reads 32 cookie s more fits (omega arith) e) refl

length_rest : (s : Spot) → length (rest s) ≡ left s
length_rest s = length-drop s.place (bits s.bytes) ∙ ap (λ (n : ℕ). n - s.place) (length-bits s.bytes)

high : (xs : List Bool) → 31 ≤ length xs → cookie < value_of (take 32 (true ∷ xs))
unfolding value_of
high xs le =
    let n : length (take 31 xs) ≡ 31 = omega (arith, length-take 31 xs) in
    let v : value_of (take 32 (true ∷ xs)) ≡ 2 ^ length (take 31 xs) + value_of (take 31 xs) = refl in
    let w : 2 ^ length (take 31 xs) ≡ 2 ^ 31 = ap (λ (k : ℕ). 2 ^ k) n in
    omega (arith, v, w)

-- bits that begin with 1 are no cookie
pub no_cookie : (s : Spot) (xs : List Bool) → rest s ≡ true ∷ xs → behind_cookie s ≡ s
unfolding behind_cookie number_at
no_cookie s xs e = elim (cases_lt (left s) 32) [
  | inl few ↦ rw (lt-ltb (left s) 32 few) refl
  | inr many ↦
      let n : 31 ≤ length xs = omega (arith, length_rest s, ap (λ (x : List Bool). length x) e) in
      let h : cookie < value_of (take 32 (rest s)) = rw e (high xs n) in
      let other : eqb (value_of (take 32 (rest s))) cookie ≡ false = ne_eqb (value_of (take 32 (rest s))) cookie (λ same. omega (arith, h, same)) in
      rw (le-ltb (left s) 32 many, other) refl
]

-- ---- the marks
presence : Bool → ℕ
presence true = 1
presence false = 0

presence_at : (told : Bool) (s : Spot) (more : List Bool) → IsBytes s.bytes → rest s ≡ told ∷ more → field_at 1 align.Bits s ≡ Ok (presence told, moved s 1)
unfolding field_at presence number_bits
presence_at true s more fits e = rw (reads 1 1 s more fits (omega arith) e) refl
presence_at false s more fits e = rw (reads 1 0 s more fits (omega arith) e) refl

presence_is : (told : Bool) → eqb (presence told) 1 ≡ told
unfolding presence
presence_is true = refl
presence_is false = refl

pub marks_are : (told : Bool) (s : Spot) (more : List Bool) → IsBytes s.bytes → rest s ≡ mark_bits told ++ more → marks_at s ≡ Ok (told, moved s 8)
unfolding marks_at number_bits
marks_are told s more fits e =
    let one = known 2 2 kind.NoExi s (told ∷ false ∷ false ∷ false ∷ false ∷ false ∷ more) fits (omega arith) e in
    let e2 : rest (moved s 2) ≡ told ∷ false ∷ false ∷ false ∷ false ∷ false ∷ more = rest_moved s (true ∷ false ∷ []) (told ∷ false ∷ false ∷ false ∷ false ∷ false ∷ more) e in
    let two = presence_at told (moved s 2) (false ∷ false ∷ false ∷ false ∷ false ∷ more) fits e2 in
    let e3 : rest (moved (moved s 2) 1) ≡ false ∷ false ∷ false ∷ false ∷ false ∷ more = rest_moved (moved s 2) (told ∷ []) (false ∷ false ∷ false ∷ false ∷ false ∷ more) e2 in
    let three = known 5 0 kind.Version (moved (moved s 2) 1) more fits (omega arith) e3 in
    let place : s.place + 2 + 1 + 5 ≡ s.place + 8 = omega arith in
    rw (one, two, three, presence_is told) (ap (λ (p : ℕ). Ok (told, record { bytes = s.bytes; place = p })) place)

-- ---- written in one number
pub marks_told : (told : Bool) (n : ℕ) → told ≡ true → n ≡ 160 → number_bits 8 n ≡ mark_bits told
unfolding number_bits
marks_told told n yes_is is = rw (yes_is, is) refl

pub marks_untold : (told : Bool) (n : ℕ) → told ≡ false → n ≡ 128 → number_bits 8 n ≡ mark_bits told
unfolding number_bits
marks_untold told n no_is is = rw (no_is, is) refl

pub put_is : {X E : Type 0} (r : Result X E) (old new : List Bool) (n : ℕ) (told : Bool) → number_bits 8 n ≡ mark_bits told → OnOk r (new ≡ old ++ number_bits 8 n) → OnOk r (new ≡ old ++ mark_bits told)
put_is (Ok x) old new n told e h = h ∙ ap (λ (b : List Bool). old ++ b) e
put_is (Err f) old new n told e h = tt
