-- A text `YYYY-MM-DDThh:mm:ssZ` with its digits in their ranges is the canonical text of its fields.
use Rattle.std.proofs.Common.{◌≡◌, ℕ, zero, suc, zero-le, ◌+◌, ◌-◌, ◌*◌, ◌<◌, ◌≤◌, true, List, [], ◌∷◌, ◌++◌, length, get_or, Option, Some, None, refl, sym, ap, ◌∙◌, subst, arith}
use Rattle.std.proofs.lemmas.Bool.{and_parts}
use Rattle.std.specs.Prelude.{◌&&◌, ℤ, pos, slice_index}
use Rattle.exi_names.specs.declared.moment.Moment.{Moment}
use Rattle.exi_names.specs.declared.moment.MomentKind.TheVariants as form
use Rattle.exi_digits.specs.Digits.{all_digits, is_digit, number_of, padded}
use Rattle.exi_calendar.specs.Parts.{IsInRanges, colon, hyphen, letter_t, letter_z}
use Rattle.exi_calendar.specs.Forms.{moment_text}
use Rattle.exi_calendar.specs.Reading.{HasMarks, date_time, moment_value, two_digits_of}
use Rattle.exi_calendar.proofs.Fields.{some, two_digits_back, two_digits_number}
use Rattle.exi_calendar.proofs.Years.{padded_4}
use Rattle.exi_calendar.proofs.Whole.{canonical_value}

-- ---- a list by its places
abbrev from_places : ℕ → ℕ → List ℕ → List ℕ
from_places start zero text = []
from_places start (suc n) text = slice_index text start ∷ from_places (suc start) n text

shifted : (start n c : ℕ) (text : List ℕ) → from_places (suc start) n (c ∷ text) ≡ from_places start n text
shifted start zero c text = refl
shifted start (suc n) c text = ap (λ (t : List ℕ). slice_index text start ∷ t) (shifted (suc start) n c text)

all_places : (text : List ℕ) → from_places 0 (length text) text ≡ text
all_places [] = refl
all_places (c ∷ text) = ap (λ (t : List ℕ). c ∷ t) (shifted 0 (length text) c text ∙ all_places text)

-- ---- the year
four_digits : (a b c d century years : ℕ) → two_digits_of 0 99 a b ≡ some century → two_digits_of 0 99 c d ≡ some years → padded 4 (century * 100 + years) ≡ a ∷ b ∷ c ∷ d ∷ []
four_digits a b c d century years front back =
    let f = two_digits_number 0 99 a b century front in
    let r = two_digits_number 0 99 c d years back in
    let all : all_digits (a ∷ b ∷ c ∷ d ∷ []) ≡ true = rw (f.0, f.1, r.0, r.1) refl in
    let same : century * 100 + years ≡ number_of (a ∷ b ∷ c ∷ d ∷ []) = omega (arith, f.2, r.2) in
    ap (padded 4) same ∙ padded_4 (a ∷ b ∷ c ∷ d ∷ []) all refl (omega (arith, sym same, f.3, r.3))

-- ---- the whole text
module _ (text : List ℕ) (century years month day hour minute second : ℕ) (length_is : length text ≡ 20) (marks : HasMarks text)
    (century_is : two_digits_of 0 99 (slice_index text 0) (slice_index text 1) ≡ some century)
    (years_is : two_digits_of 0 99 (slice_index text 2) (slice_index text 3) ≡ some years)
    (month_is : two_digits_of 1 12 (slice_index text 5) (slice_index text 6) ≡ some month)
    (day_is : two_digits_of 1 31 (slice_index text 8) (slice_index text 9) ≡ some day)
    (hour_is : two_digits_of 0 24 (slice_index text 11) (slice_index text 12) ≡ some hour)
    (minute_is : two_digits_of 0 59 (slice_index text 14) (slice_index text 15) ≡ some minute)
    (second_is : two_digits_of 0 60 (slice_index text 17) (slice_index text 18) ≡ some second) where
  abbrev pub found : Moment
  found = date_time (pos (century * 100 + years)) month day hour minute second

  pub text_is : moment_text found ≡ text
  unfolding moment_text
  text_is =
      let year = four_digits (slice_index text 0) (slice_index text 1) (slice_index text 2) (slice_index text 3) century years century_is years_is in
      let mo = two_digits_back 1 12 (slice_index text 5) (slice_index text 6) month month_is in
      let da = two_digits_back 1 31 (slice_index text 8) (slice_index text 9) day day_is in
      let ho = two_digits_back 0 24 (slice_index text 11) (slice_index text 12) hour hour_is in
      let mi = two_digits_back 0 59 (slice_index text 14) (slice_index text 15) minute minute_is in
      let se = two_digits_back 0 60 (slice_index text 17) (slice_index text 18) second second_is in
      let listed : from_places 0 20 text ≡ text = ap (λ (n : ℕ). from_places 0 n text) (sym length_is) ∙ all_places text in
      rw (year, ← mo.0, ← da.0, ← ho.0, ← mi.0, ← se.0) (rw (marks.month, marks.day, marks.hour, marks.minute, marks.second, marks.zone) at listed)

  pub ranges_are : IsInRanges found
  ranges_are =
      let f = two_digits_number 0 99 (slice_index text 0) (slice_index text 1) century century_is in
      let r = two_digits_number 0 99 (slice_index text 2) (slice_index text 3) years years_is in
      record {
        year = omega (arith, f.3, r.3);
        month = ((two_digits_back 1 12 (slice_index text 5) (slice_index text 6) month month_is).1, (two_digits_back 1 12 (slice_index text 5) (slice_index text 6) month month_is).2);
        day = ((two_digits_back 1 31 (slice_index text 8) (slice_index text 9) day day_is).1, (two_digits_back 1 31 (slice_index text 8) (slice_index text 9) day day_is).2);
        hour = ((two_digits_back 0 24 (slice_index text 11) (slice_index text 12) hour hour_is).1, (two_digits_back 0 24 (slice_index text 11) (slice_index text 12) hour hour_is).2);
        minute = ((two_digits_back 0 59 (slice_index text 14) (slice_index text 15) minute minute_is).1, (two_digits_back 0 59 (slice_index text 14) (slice_index text 15) minute minute_is).2);
        second = ((two_digits_back 0 60 (slice_index text 17) (slice_index text 18) second second_is).1, (two_digits_back 0 60 (slice_index text 17) (slice_index text 18) second second_is).2);
        fraction = tt;
        zone = zero-le;
      }

  pub value_is : moment_value form.DateTime text ≡ some found
  value_is = subst (λ (t : List ℕ). moment_value form.DateTime t ≡ some found) text_is (canonical_value found ranges_are)
