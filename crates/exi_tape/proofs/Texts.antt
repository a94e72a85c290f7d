-- Which bytes are a text's.
use Rattle.std.proofs.Common.{◌≡◌, ℕ, List, Bool, true, false, Some, None, if◌then◌else◌, ap, ◌∙◌, sym, refl, IsUtf8, IsAscii, chars}
use Rattle.std.specs.Str.{is_utf8}
use Rattle.std.proofs.lemmas.Str.{IsUtf8-from_ascii, chars-IsAscii, is_utf8-from_IsUtf8, IsUtf8-from_is_utf8}
use Rattle.exi_tape.specs.Reading.{text_of}

pub utf8_text : (bs : List ℕ) → IsUtf8 bs → text_of bs ≡ Some (chars bs)
unfolding text_of
utf8_text bs u = ap (λ b. if b then Some (chars bs) else None) (is_utf8-from_IsUtf8 bs u)

pub ascii_text : (bs t : List ℕ) → IsAscii bs → t ≡ bs → text_of bs ≡ Some t
ascii_text bs t h is = utf8_text bs (IsUtf8-from_ascii bs h) ∙ ap (λ l. Some l) (chars-IsAscii bs h ∙ sym is)

unless : (b : Bool) (t : List ℕ) → ((b ≡ true) → ⊥) → (if b then Some t else None) ≡ None
unless true t n = absurd (n refl)
unless false t n = refl

pub no_text : (bs : List ℕ) → (IsUtf8 bs → ⊥) → text_of bs ≡ None
unfolding text_of
no_text bs n = unless (is_utf8 bs) (chars bs) (λ h. n (IsUtf8-from_is_utf8 bs h))
