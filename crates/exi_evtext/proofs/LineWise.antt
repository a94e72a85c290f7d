-- The events of a text, line by line.
use Rattle.std.proofs.Common.{◌≡◌, ◌<◌, ℕ, suc, Bool, true, false, eqb, List, [], ◌∷◌, ◌++◌, length, Option, Some, None, refl, sym, ap, ◌∙◌, subst, inl, inr, append_assoc, arith}
use Rattle.std.specs.Prelude.{Result, Ok, Err, option_copied}
use Rattle.std.specs.Borrow.{Bor}
use Rattle.exi_evtext.specs.declared.stop.LineStop.{LineStop}
use Rattle.exi_evtext.specs.declared.stop.LineStop.TheVariants as stop
use Rattle.std.specs.List.{onto_first, slice_split}
use Rattle.std.proofs.lemmas.Bool.{cases_Bool, eqb-true}
use Rattle.exi_names.specs.Events.{Happening}
use Rattle.exi_digits.specs.Digits.{has_any}
use Rattle.exi_digits.specs.Splits.{before, behind, is_mark}
use Rattle.exi_evtext.specs.Lines.{lines_of}
use Rattle.exi_evtext.specs.Laws.{AreEvents}
use Rattle.exi_evtext.specs.Left.{LinesLeft}
use Rattle.exi_evtext.specs.Reading.{event_in}
use Rattle.exi_evtext.specs.Spelling.{SaysAll}
use Rattle.exi_evtext.proofs.Feedless.{printed_says}
use Rattle.exi_evtext.proofs.Read.{read_says}
use Rattle.exi_evtext.proofs.Spelled.{says_read}
use Rattle.exi_evtext.specs.Parsing.{StopsAs, event_then, events_in, events_left, events_of, with_event}

-- ---- pieces
pub split_none : (test : ℕ → Bool) (text : List ℕ) → behind test text ≡ None → slice_split test text ≡ text ∷ []
split_none test [] e = refl
split_none test (c ∷ cs) e = elim (cases_Bool (test c)) [
  | inl h ↦ absurd (let f = rw h at e in cc)
  | inr h ↦ rw h (ap (onto_first c) (split_none test cs (rw h at e)))
]

pub split_some : (test : ℕ → Bool) (text rest : List ℕ) → behind test text ≡ Some rest → slice_split test text ≡ before test text ∷ slice_split test rest
split_some test [] rest e = absurd cc
split_some test (c ∷ cs) rest e = elim (cases_Bool (test c)) [
  | inl h ↦ let f : Some cs ≡ Some rest = rw h at e in let same : cs ≡ rest = cc in rw (h, same) refl
  | inr h ↦ rw h (ap (onto_first c) (split_some test cs rest (rw h at e)))
]

-- there is a piece at least
record Pieces (test : ℕ → Bool) (text : List ℕ) : Type 0 where
  one : List ℕ
  more : List (List ℕ)
  parts : slice_split test text ≡ one ∷ more

pieces : (test : ℕ → Bool) (text : List ℕ) → Pieces test text
pieces test [] = record { one = []; more = []; parts = refl }
pieces test (c ∷ cs) =
    let p = pieces test cs in
    elim (cases_Bool (test c)) [
      | inl h ↦ record { one = []; more = slice_split test cs; parts = rw h refl }
      | inr h ↦ record { one = c ∷ p.one; more = p.more; parts = rw h (ap (onto_first c) p.parts) }
    ]

-- ---- lines
abbrev Read : Type 0
Read = Result (List Happening) ℕ

-- the events of lines from this number on
abbrev pub from : ℕ → List ℕ → Read
from n text = events_of n (slice_split (is_mark 10) text)

pub from_line : (n : ℕ) (text rest : List ℕ) → behind (is_mark 10) text ≡ Some rest → from n text ≡ event_then n (event_in (before (is_mark 10) text)) (from (suc n) rest)
from_line n text rest e =
    let p = pieces (is_mark 10) rest in
    let line = before (is_mark 10) text in
    ap (events_of n) (split_some (is_mark 10) text rest e ∙ ap (λ (x : List (List ℕ)). line ∷ x) p.parts) ∙ ap (λ (x : List (List ℕ)). event_then n (event_in line) (events_of (suc n) x)) (sym p.parts)

-- events in front of those that are read
abbrev pub after : List Happening → Read → Read
after es (Ok more) = Ok (es ++ more)
after es (Err n) = Err n

after_one : (es : List Happening) (e : Happening) (r : Read) → after es (with_event e r) ≡ after (es ++ e ∷ []) r
after_one es e (Ok more) = ap (λ (x : List Happening). Ok x) (sym (append_assoc es (e ∷ []) more))
after_one es e (Err n) = refl

pub after_nothing : (r : Read) → after [] r ≡ r
after_nothing (Ok more) = refl
after_nothing (Err n) = refl

behind_is : (text rest : List ℕ) (r : Option (Bor (List ℕ))) (b : Bor (List ℕ)) → option_copied r ≡ behind (is_mark 10) text → r ≡ Some b → behind (is_mark 10) text ≡ Some b.now
behind_is text rest r b copied is = sym copied ∙ ap (λ (x : Option (Bor (List ℕ))). option_copied x) is

behind_shorter : (test : ℕ → Bool) (text rest : List ℕ) → behind test text ≡ Some rest → length rest < length text
behind_shorter test [] rest e = absurd cc
behind_shorter test (c ∷ cs) rest e = elim (cases_Bool (test c)) [
  | inl h ↦
      let f : Some cs ≡ Some rest = rw h at e in
      let same : cs ≡ rest = cc in
      let long : length cs ≡ length rest = ap (λ (x : List ℕ). length x) same in
      omega (arith, long)
  | inr h ↦ let k = behind_shorter test cs rest (rw h at e) in omega (arith, k)
]

pub line_shorter : (text : List ℕ) (r : Option (Bor (List ℕ))) (b : Bor (List ℕ)) → option_copied r ≡ behind (is_mark 10) text → r ≡ Some b → length b.now < length text
line_shorter text r b copied is = behind_shorter (is_mark 10) text b.now (behind_is text b.now r b copied is)

pub some_left : (text : List ℕ) → false ≡ eqb (length text) 0 → has_any text ≡ true
some_left [] h = absurd cc
some_left (b ∷ more) h = refl

stopped : (e : LineStop) (o : Option Happening) → e ≡ stop.Form → StopsAs e o → o ≡ None
stopped stop.Form o is h = h
stopped stop.Memory o is h = absurd cc

pub left_is : (text : List ℕ) (n : ℕ) → events_left (record { bytes = text; line = n }) ≡ from n text
unfolding events_left
left_is text n = refl

pub all_left : (text : List ℕ) → events_left (record { bytes = text; line = 1 }) ≡ events_in text
unfolding events_left events_in
all_left text = refl

from_none : (n : ℕ) (text : List ℕ) → true ≡ eqb (length text) 0 → from n text ≡ Ok []
from_none n [] h = refl
from_none n (b ∷ more) h = absurd (omega (arith, eqb-true (suc (length more)) 0 (sym h)))

pub none_left : (l : LinesLeft) (text : List ℕ) (n : ℕ) → record { bytes = text; line = n } ≡ l → true ≡ eqb (length text) 0 → events_left l ≡ Ok []
none_left l text n is h = sym (ap events_left is) ∙ (left_is text n ∙ from_none n text h)

pub line_left : (l : LinesLeft) (text line : List ℕ) (n m : ℕ) (r : Option (Bor (List ℕ))) (b : Bor (List ℕ)) (e : Happening) → record { bytes = text; line = n } ≡ l → line ≡ before (is_mark 10) text → option_copied r ≡ behind (is_mark 10) text → r ≡ Some b
    → event_in line ≡ Some e → m ≡ suc n → events_left l ≡ with_event e (events_left (record { bytes = b.now; line = m }))
line_left l text line n m r b e is front copied found read up =
    let rest = b.now in
    let here : event_in (before (is_mark 10) text) ≡ Some e = ap event_in (sym front) ∙ read in
    let one : from n text ≡ with_event e (from (suc n) rest) = from_line n text rest (behind_is text rest r b copied found) ∙ ap (λ (o : Option Happening). event_then n o (from (suc n) rest)) here in
    sym (ap events_left is) ∙ (left_is text n ∙ (one ∙ ap (with_event e) (ap (λ (x : ℕ). from x rest) (sym up) ∙ sym (left_is rest m))))

pub formless_left : (l : LinesLeft) (text line : List ℕ) (n : ℕ) (r : Option (Bor (List ℕ))) (b : Bor (List ℕ)) (e : LineStop) → record { bytes = text; line = n } ≡ l → line ≡ before (is_mark 10) text → option_copied r ≡ behind (is_mark 10) text → r ≡ Some b
    → e ≡ stop.Form → StopsAs e (event_in line) → events_left l ≡ Err n
formless_left l text line n r b e is front copied found form h =
    let rest = b.now in
    let here : event_in (before (is_mark 10) text) ≡ None = ap event_in (sym front) ∙ stopped e (event_in line) form h in
    let one : from n text ≡ Err n = from_line n text rest (behind_is text rest r b copied found) ∙ ap (λ (o : Option Happening). event_then n o (from (suc n) rest)) here in
    sym (ap events_left is) ∙ (left_is text n ∙ one)

pub open_left : (l : LinesLeft) (text : List ℕ) (n : ℕ) (r : Option (Bor (List ℕ))) → record { bytes = text; line = n } ≡ l → false ≡ eqb (length text) 0 → option_copied r ≡ behind (is_mark 10) text → r ≡ None → events_left l ≡ Err n
open_left l text n r is some copied found =
    let none : behind (is_mark 10) text ≡ None = sym copied ∙ ap (λ (x : Option (Bor (List ℕ))). option_copied x) found in
    let one : from n text ≡ Err n = ap (events_of n) (split_none (is_mark 10) text none) ∙ rw (some_left text some) refl in
    sym (ap events_left is) ∙ (left_is text n ∙ one)

-- ---- a text and the events that its lines say
says_from : (n : ℕ) (bytes : List ℕ) (es : List Happening) → SaysAll bytes es → from n bytes ≡ Ok es
says_from n bytes [] h = ap (from n) h
says_from n bytes (e ∷ es) h =
    let rest = h.1.0 in
    let line = before (is_mark 10) bytes in
    from_line n bytes rest h.1.1
    ∙ ap (λ (o : Option Happening). event_then n o (from (suc n) rest)) (says_read line e h.0)
    ∙ ap (with_event e) (says_from (suc n) rest es h.1.2)

pub text_read : (bytes : List ℕ) (es : List Happening) → SaysAll bytes es → events_in bytes ≡ Ok es
unfolding events_in
text_read bytes es h = says_from 1 bytes es h

-- a line with events behind it
record Parts (n : ℕ) (o : Option Happening) (more : Read) (es : List Happening) : Type 0 where
  e : Happening
  rest : List Happening
  here : o ≡ Some e
  others : more ≡ Ok rest
  parts : es ≡ e ∷ rest

then_parts : (n : ℕ) (o : Option Happening) (more : Read) (es : List Happening) → event_then n o more ≡ Ok es → Parts n o more es
then_parts n None more es h = absurd cc
then_parts n (Some e) (Err m) es h = absurd cc
then_parts n (Some e) (Ok rest) es h = let same : e ∷ rest ≡ es = cc in record { e = e; rest = rest; here = refl; others = refl; parts = sym same }

-- a text without a line feed
open_parts : (n : ℕ) (bytes : List ℕ) (es : List Happening) → events_of n (bytes ∷ []) ≡ Ok es → (bytes ≡ []) × (es ≡ [])
open_parts n [] es h = let same : [] ≡ es = cc in (refl, sym same)
open_parts n (b ∷ bytes) es h = absurd cc

from_says_by : (n : ℕ) (bytes : List ℕ) (es : List Happening) (o : Option (List ℕ)) → behind (is_mark 10) bytes ≡ o → from n bytes ≡ Ok es → SaysAll bytes es
from_says_by n bytes es None b h =
    let p = open_parts n bytes es (ap (events_of n) (sym (split_none (is_mark 10) bytes b)) ∙ h) in
    subst (SaysAll bytes) (sym p.1) p.0
from_says_by n bytes [] (Some rest) b h =
    let p = then_parts n (event_in (before (is_mark 10) bytes)) (from (suc n) rest) [] (sym (from_line n bytes rest b) ∙ h) in
    absurd (let k = p.parts in cc)
from_says_by n bytes (e ∷ es) (Some rest) b h =
    let line = before (is_mark 10) bytes in
    let p = then_parts n (event_in line) (from (suc n) rest) (e ∷ es) (sym (from_line n bytes rest b) ∙ h) in
    let k = p.parts in
    let same : p.e ≡ e = cc in
    let tail : p.rest ≡ es = cc in
    (read_says line e (p.here ∙ ap (λ (x : Happening). Some x) same), (rest, b, from_says_by (suc n) rest es (behind (is_mark 10) rest) refl (p.others ∙ ap (λ (x : List Happening). Ok x) tail)))

from_says : (n : ℕ) (bytes : List ℕ) (es : List Happening) → from n bytes ≡ Ok es → SaysAll bytes es
from_says n bytes es h = from_says_by n bytes es (behind (is_mark 10) bytes) refl h

pub text_says : (bytes : List ℕ) (es : List Happening) → events_in bytes ≡ Ok es → SaysAll bytes es
unfolding events_in
text_says bytes es h = from_says 1 bytes es h

pub printed_parsed : (es : List Happening) → AreEvents es → events_in (lines_of es) ≡ Ok es
printed_parsed es h = text_read (lines_of es) es (printed_says es h)
