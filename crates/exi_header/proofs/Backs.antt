-- What is written of a header is read again.
use Rattle.std.proofs.Common.{◌≡◌, ℕ, ◌+◌, ◌*◌, ◌-◌, ◌/◌, ◌%◌, ◌^◌, ◌<◌, ◌≤◌, Bool, true, false, cond, List, [], ◌∷◌, ◌++◌, length, drop, replicate, append_assoc, Option, Some, None, Result, Ok, Err, refl, sym, ap, ◌∙◌, subst, inl, inr, arith}
use Rattle.std.proofs.lemmas.Bool.{cases_Bool}
use Rattle.std.proofs.lemmas.List.{append-nil, length-append, length-replicate}
use Rattle.exi_bits.specs.Bits.{IsBytes, Spot, at_next_byte, bits, moved, number_bits, rest}
use Rattle.exi_bits.specs.Unsigned.{◌>>=◌}
use Rattle.exi_bits.specs.Written.{padded, to_byte, zeros}
use Rattle.exi_bits.proofs.BitLaws.{length-number_bits}
use Rattle.exi_gram.specs.declared.options.Options.{Options}
use Rattle.exi_gram.specs.Switches.{byte_aligned, conflicts}
use Rattle.exi_options.specs.declared.told.Told.{Told}
use Rattle.exi_options.specs.Laws.{IsTellable}
use Rattle.exi_options.specs.Writing.{options_bits}
use Rattle.exi_options.proofs.Written.{written_read}
use Rattle.exi_header.specs.declared.header.Header.{Header}
use Rattle.exi_header.specs.Headers.{behind_cookie, body_at, cookie, cookie_bits, document_bits, front_bits, header_at, header_bits, header_in, header_of, mark_bits, marks_at, told_at}
use Rattle.exi_header.specs.Laws.{IsReadBack, WrittenIsRead}
use Rattle.exi_header.proofs.Marks.{cookie_is_passed, marks_are, no_cookie, rest_moved}

abbrev at_start : List ℕ → Spot
at_start bytes = record { bytes = bytes; place = 0 }

-- ---- the padding
next_byte : (n : ℕ) → (n + 7) / 8 * 8 ≡ n + to_byte n
next_byte n = omega arith

-- how long a header is whose front has so many bits
abbrev whole : Bool → ℕ → ℕ
whole true n = n + to_byte n
whole false n = n

pub record IsPadded (o : Options) (told marked : Bool) (more : List Bool) : Type 0 where
  pub tail : List Bool
  pub parts : header_bits o told marked ++ more ≡ front_bits o told marked ++ tail
  pub long : length (header_bits o told marked) ≡ whole (byte_aligned o) (length (front_bits o told marked))

is_padded : (o : Options) (told marked : Bool) (more : List Bool) → IsPadded o told marked more
unfolding header_bits
is_padded o told marked more = elim (cases_Bool (byte_aligned o)) [
  | inl e ↦ record {
    tail = zeros (to_byte (length (front_bits o told marked))) ++ more;
    parts = rw e (append_assoc (front_bits o told marked) (zeros (to_byte (length (front_bits o told marked)))) more);
    long = rw e (length-append (front_bits o told marked) (zeros (to_byte (length (front_bits o told marked)))) ∙ ap (λ (n : ℕ). length (front_bits o told marked) + n) (length-replicate (to_byte (length (front_bits o told marked))) false));
  }
  | inr e ↦ record { tail = more; parts = rw e refl; long = rw e refl }
]

-- ---- the cookie and the marks
cookie_length : Bool → ℕ
cookie_length true = 32
cookie_length false = 0

long_cookie : (marked : Bool) → length (cookie_bits marked) ≡ cookie_length marked
unfolding cookie_length
long_cookie true = length-number_bits 32 cookie
long_cookie false = refl

behind_is : (marked told : Bool) (bytes : List ℕ) (more : List Bool) → IsBytes bytes → bits bytes ≡ cookie_bits marked ++ (mark_bits told ++ more) → behind_cookie (at_start bytes) ≡ moved (at_start bytes) (cookie_length marked)
unfolding cookie_length
behind_is true told bytes more fits e = cookie_is_passed (at_start bytes) (mark_bits told ++ more) fits e
behind_is false told bytes more fits e = no_cookie (at_start bytes) (false ∷ told ∷ false ∷ false ∷ false ∷ false ∷ false ∷ more) e

rest_behind_cookie : (marked told : Bool) (bytes : List ℕ) (more : List Bool) → bits bytes ≡ cookie_bits marked ++ (mark_bits told ++ more) → rest (moved (at_start bytes) (cookie_length marked)) ≡ mark_bits told ++ more
rest_behind_cookie marked told bytes more e = subst (λ (n : ℕ). rest (moved (at_start bytes) n) ≡ mark_bits told ++ more) (long_cookie marked) (rest_moved (at_start bytes) (cookie_bits marked) (mark_bits told ++ more) e)

-- ---- the options
pub record IsTold (words o : Options) (told : Bool) (s : Spot) : Type 0 where
  pub what : Told
  pub read : told_at words told s ≡ Ok (what, moved s (length (document_bits o told)))
  pub options : what.options ≡ cond told o words

not_moved : (s : Spot) → moved s 0 ≡ s
not_moved s = let e : s.place + 0 ≡ s.place = omega arith in ap (λ (place : ℕ). record { bytes = s.bytes; place = place }) e

is_told : (words o : Options) (told : Bool) (s : Spot) (more : List Bool) → IsTellable o → conflicts o ≡ false → IsBytes s.bytes → rest s ≡ document_bits o told ++ more → IsTold words o told s
unfolding told_at
is_told words o true s more fits free bytes e =
    let w = written_read o s more fits free bytes e in
    record { what = w.0; read = w.1; options = w.2 }
is_told words o false s more fits free bytes e = record {
  what = record { options = words; schema_bit = None };
  read = ap (λ (t : Spot). Ok (record { options = words; schema_bit = None }, t)) (sym (not_moved s));
  options = refl;
}

-- ---- where the body begins
place_is : (a : Options) (s : Spot) → (body_at a s).place ≡ whole (byte_aligned a) s.place
place_is a s = elim (cases_Bool (byte_aligned a)) [
  | inl e ↦ rw e (next_byte s.place)
  | inr e ↦ rw e refl
]

pub even : (n : ℕ) (b : Bool) → n % 8 ≡ 0 → whole b n ≡ n
even n true e = let z : to_byte n ≡ 0 = omega arith in omega arith
even n false e = refl

body_is : (words o : Options) (told marked : Bool) → length (front_bits o told marked) ≡ cookie_length marked + 8 + length (document_bits o told) → whole (byte_aligned (cond told o words)) (cookie_length marked + 8 + length (document_bits o told)) ≡ whole (byte_aligned o) (length (front_bits o told marked))
unfolding cookie_length
body_is words o true marked e = ap (whole (byte_aligned o)) (sym e)
body_is words o false true e = even 40 (byte_aligned words) refl ∙ sym (even 40 (byte_aligned o) refl) ∙ ap (whole (byte_aligned o)) (sym e)
body_is words o false false e = even 8 (byte_aligned words) refl ∙ sym (even 8 (byte_aligned o) refl) ∙ ap (whole (byte_aligned o)) (sym e)

front_length : (o : Options) (told marked : Bool) → length (front_bits o told marked) ≡ cookie_length marked + 8 + length (document_bits o told)
front_length o told marked =
    let one = length-append (cookie_bits marked) (mark_bits told ++ document_bits o told) in
    let two = length-append (mark_bits told) (document_bits o told) in
    let eight : length (mark_bits told) ≡ 8 = refl in
    omega (arith, one, two, eight, long_cookie marked)

pub written_back : WrittenIsRead
unfolding header_at
written_back o words told marked bytes more fits free in_bytes e =
    let p = is_padded o told marked more in
    let doc = document_bits o told in
    let parts : bits bytes ≡ cookie_bits marked ++ (mark_bits told ++ (doc ++ p.tail)) =
    e ∙ p.parts ∙ append_assoc (cookie_bits marked) (mark_bits told ++ doc) p.tail ∙ ap (λ (x : List Bool). cookie_bits marked ++ x) (append_assoc (mark_bits told) doc p.tail) in
    let one = behind_is marked told bytes (doc ++ p.tail) in_bytes parts in
    let s1 = moved (at_start bytes) (cookie_length marked) in
    let r1 : rest s1 ≡ mark_bits told ++ (doc ++ p.tail) = rest_behind_cookie marked told bytes (doc ++ p.tail) parts in
    let two = marks_are told s1 (doc ++ p.tail) in_bytes r1 in
    let r2 : rest (moved s1 8) ≡ doc ++ p.tail = rest_moved s1 (mark_bits told) (doc ++ p.tail) r1 in
    let t = is_told words o told (moved s1 8) p.tail fits free in_bytes r2 in
    let last = moved (moved s1 8) (length doc) in
    let place : 0 + cookie_length marked + 8 + length doc ≡ cookie_length marked + 8 + length doc = omega arith in
    let body : (body_at t.what.options last).place ≡ length (header_bits o told marked) =
    ap (λ (a : Options). (body_at a last).place) t.options ∙ place_is (cond told o words) last ∙ ap (whole (byte_aligned (cond told o words))) place ∙ body_is words o told marked (front_length o told marked) ∙ sym p.long in (
      header_of told (t.what, last),
      rw (one, two, t.read) refl,
      record { options = t.options; told = refl; body = body },
    )

-- ---- the cookie is there where it is asked for
first : List Bool → Bool
first [] = false
first (b ∷ bs) = b

behind_front : (o : Options) (told marked : Bool) → (tail : List Bool) × (header_bits o told marked ≡ front_bits o told marked ++ tail)
behind_front o told marked = let p = is_padded o told marked [] in (p.tail, sym (append-nil (header_bits o told marked)) ∙ p.parts)

asked_is_there : (o : Options) (told marked : Bool) → marked ≡ true → (behind : List Bool) × (header_bits o told marked ≡ number_bits 32 cookie ++ behind)
asked_is_there o told true e =
    let p = behind_front o told true in
    ((mark_bits told ++ document_bits o told) ++ p.0, p.1 ∙ append_assoc (number_bits 32 cookie) (mark_bits told ++ document_bits o told) p.0)
asked_is_there o told false e = absurd cc

there_is_asked : (o : Options) (told marked : Bool) (behind : List Bool) → header_bits o told marked ≡ number_bits 32 cookie ++ behind → marked ≡ true
unfolding first number_bits
there_is_asked o told true behind e = refl
there_is_asked o told false behind e =
    let p = behind_front o told false in
    let one : true ≡ false = ap first (sym p.1 ∙ e) in
    absurd cc

pub cookie_asked : (o : Options) (told marked : Bool) → ((marked ≡ true) → (behind : List Bool) × (header_bits o told marked ≡ number_bits 32 cookie ++ behind)) × ((behind : List Bool) × (header_bits o told marked ≡ number_bits 32 cookie ++ behind) → marked ≡ true)
cookie_asked o told marked = (asked_is_there o told marked, λ w. there_is_asked o told marked w.0 w.1)
