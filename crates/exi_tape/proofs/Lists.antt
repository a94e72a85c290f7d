-- Events one after another.
use Rattle.std.proofs.Common.{◌≡◌, ℕ, zero, suc, ◌<◌, ◌≤◌, ◌^◌, List, [], ◌∷◌, ◌++◌, length, ap, ◌∙◌, sym, refl, subst, arith, append_assoc, length-append}
use Rattle.std.proofs.lemmas.List.{append-nil}
use Rattle.exi_names.specs.Events as event
use Rattle.exi_tape.specs.Spelling.{spelled, spelled_all}
use Rattle.exi_tape.specs.Reading.{byte_at, event_at, read_on, read_most, read}
use Rattle.exi_tape.specs.Sound.{Sound}
use Rattle.exi_tape.proofs.Back.{event_back}
use Rattle.exi_tape.specs.Tapes.{AllSound, IsTape}

-- no event is without bytes
pub some_bytes : (e : event.Happening) → 1 ≤ length (spelled e)
unfolding spelled
some_bytes event.sd = omega arith
some_bytes event.ed = omega arith
some_bytes (event.se n) = omega arith
some_bytes event.ee = omega arith
some_bytes (event.at n v) = omega arith
some_bytes (event.ch v) = omega arith
some_bytes (event.ns u p e) = omega arith
some_bytes (event.sc n) = omega arith
some_bytes (event.cm t) = omega arith
some_bytes (event.pi a b) = omega arith
some_bytes (event.dt a b c d) = omega arith
some_bytes (event.er t) = omega arith

none_at : (n : ℕ) → read_most n [] ≡ []
unfolding event_at byte_at
none_at zero = refl
none_at (suc n) = refl

most_back : (es : List event.Happening) (n : ℕ) → AllSound es → length es ≤ n → read_most n (spelled_all es) ≡ es
most_back [] n all h = none_at n
most_back (e ∷ es) zero all h = absurd (omega arith)
most_back (e ∷ es) (suc n) all h = ap (λ r. read_on (read_most n) r) (event_back e (spelled_all es) all.0 all.1) ∙ ap (λ l. e ∷ l) (most_back es n all.2 (omega arith))

enough : (es : List event.Happening) → length es ≤ length (spelled_all es)
enough [] = omega arith
enough (e ∷ es) = omega (arith, length-append (spelled e) (spelled_all es), some_bytes e, enough es)

pub read_back : (es : List event.Happening) → AllSound es → read (spelled_all es) ≡ es
unfolding read
read_back es all = most_back es (length (spelled_all es)) all (enough es)

pub spelled_more : (es : List event.Happening) (e : event.Happening) → spelled_all (es ++ e ∷ []) ≡ spelled_all es ++ spelled e
spelled_more [] e = append-nil (spelled e)
spelled_more (x ∷ xs) e = ap (λ l. spelled x ++ l) (spelled_more xs e) ∙ sym (append_assoc (spelled x) (spelled_all xs) (spelled e))

all_more : (es : List event.Happening) (e : event.Happening) → AllSound es → Sound e → length (spelled e) < 2 ^ 64 → AllSound (es ++ e ∷ [])
all_more [] e all one few = (one, few, tt)
all_more (x ∷ xs) e all one few = (all.0, all.1, all_more xs e all.2 one few)

-- ---- one more event
module _ (bs new : List ℕ) (e : event.Happening) (one : Sound e) (few : length (spelled e) < 2 ^ 64) (was : IsTape bs) (all : AllSound (read bs)) (is : new ≡ bs ++ spelled e) where
  whole : new ≡ spelled_all (read bs ++ e ∷ [])
  whole = is ∙ ap (λ l. l ++ spelled e) was ∙ sym (spelled_more (read bs) e)

  pub reads_more : read new ≡ read bs ++ e ∷ []
  reads_more = ap (λ l. read l) whole ∙ read_back (read bs ++ e ∷ []) (all_more (read bs) e all one few)

  pub tape_more : IsTape new
  tape_more = whole ∙ ap (λ l. spelled_all l) (sym reads_more)

  pub sound_more : AllSound (read new)
  sound_more = subst (λ l. AllSound l) (sym reads_more) (all_more (read bs) e all one few)
