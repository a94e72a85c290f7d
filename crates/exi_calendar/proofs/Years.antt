-- The year at the front of a text, both ways.
use Rattle.std.proofs.Common.{◌≡◌, ℕ, zero, suc, ◌-◌, ◌^◌, ◌<◌, ◌≤◌, Bool, true, false, ◌&&◌, cond, eqb, ltb, leb, List, [], ◌∷◌, ◌++◌, length, get_or, Option, Some, None, refl, sym, ap, ◌∙◌, subst, inl, inr, arith}
use Rattle.std.proofs.lemmas.Bool.{cases_Bool, cases_lt, cases_eq, eq-eqb, eqb-true, eqb-false, ne_eqb, le-leb, leb-true, lt-ltb, ltb-true, and_parts}
use Rattle.std.proofs.lemmas.List.{take_at, drop_at, take-append-drop}
use Rattle.std.proofs.lemmas.Fmt.{decimal-digits_value}
use Rattle.std.proofs.lemmas.Str.Parse.{IsDigitsTest, IsNumeralModel, WeighsDigits, numerals_by_weight}
use Rattle.std.proofs.lemmas.Option.{cond_some}
use Rattle.std.specs.Prelude.{decimal, not, ℤ, pos, negsuc}
use Rattle.exi_digits.specs.Digits.{all_digits, is_digit, is_numeral, kept, number_in, number_of, padded}
use Rattle.exi_digits.proofs.Numbers.{kept_is}
use Rattle.exi_digits.proofs.Decimals.{all_digits-padded, decimal_long, decimal_short, first_digit, length-padded, number_in-padded, number_of_below, padded_any, padded_long}
use Rattle.exi_calendar.specs.Parts.{IsYear, hyphen, point}
use Rattle.exi_calendar.specs.Forms.{year_text}
use Rattle.exi_calendar.specs.Reading.{◌>>=◌, after_lead, digits_year_at, is_long_enough, lead, lead_width, past, signed_year, signed_year_at, year_at, year_of}
use Rattle.exi_calendar.proofs.Fields.{bind_some, cond_some_of, digit_bounds, map_some, past_back, past_front, some, some_is}

-- ---- the digits at the front of a text
-- a text that goes on with neither a digit nor a point, or ends
abbrev pub ends : List ℕ → Bool
ends [] = true
ends (c ∷ text) = not (is_digit c) && not (eqb c point)

pub not_true : (b : Bool) → not b ≡ true → b ≡ false
not_true true e = absurd cc
not_true false e = refl

pub lead_width_front : (ds rest : List ℕ) → all_digits ds ≡ true → ends rest ≡ true → lead_width (ds ++ rest) ≡ length ds
lead_width_front [] [] all end = refl
lead_width_front [] (c ∷ rest) all end =
    let p = and_parts (not (is_digit c)) (not (eqb c point)) end in
    rw (not_true (is_digit c) p.0) refl
lead_width_front (c ∷ ds) rest all end =
    let p = and_parts (is_digit c) (all_digits ds) all in
    rw p.0 (ap suc (lead_width_front ds rest p.1 end))

pub lead_front : (ds rest : List ℕ) → all_digits ds ≡ true → ends rest ≡ true → (lead (ds ++ rest) ≡ ds) × (after_lead (ds ++ rest) ≡ rest)
lead_front ds rest all end =
    let w = sym (lead_width_front ds rest all end) in
    (take_at ds rest (lead_width (ds ++ rest)) w, drop_at ds rest (lead_width (ds ++ rest)) w)

pub lead_digits : (text : List ℕ) → all_digits (lead text) ≡ true
lead_digits [] = refl
lead_digits (c ∷ text) =
    elim (cases_Bool (is_digit c)) [
      | inl yes_is ↦ rw (yes_is, yes_is) (lead_digits text)
      | inr no_is ↦ rw no_is refl
    ]

-- ---- the digits of a year
long_enough : (n : ℕ) → n < 2 ^ 128 → is_long_enough (padded 4 n) ≡ true
long_enough n low =
    elim (cases_lt n (10 ^ 4)) [
      | inl small ↦ rw (eq-eqb (length (padded 4 n)) 4 (length-padded 4 n (omega arith) low small)) refl
      | inr large ↦
          let more : 4 < length (decimal n) = decimal_long 4 n low large in
          let others : eqb (length (decimal n)) 4 ≡ false = ne_eqb (length (decimal n)) 4 (λ e. omega arith) in
          let first : eqb (get_or (decimal n) 0 0) 48 ≡ false = ne_eqb (get_or (decimal n) 0 0) 48 (first_digit n (omega arith) low) in
          let e : padded 4 n ≡ decimal n = padded_long 4 n low large in
          subst (λ (ds : List ℕ). is_long_enough ds ≡ true) (sym e) (rw (others, lt-ltb 4 (length (decimal n)) more, first) refl)
    ]

year_of_given : (minus : Bool) (ds : List ℕ) (n : ℕ) (y : ℤ) → is_long_enough ds ≡ true → number_in ds ≡ some n → signed_year minus n ≡ some y → year_of minus ds ≡ some y
unfolding year_of
year_of_given minus ds n y long number e =
    ap (λ (b : Bool). cond b (number_in ds >>= signed_year minus) None) long ∙ ap (λ (o : Option ℕ). o >>= signed_year minus) number ∙ e

year_of_digits : (minus : Bool) (n : ℕ) (y : ℤ) → n < 2 ^ 128 → signed_year minus n ≡ some y → year_of minus (padded 4 n) ≡ some y
year_of_digits minus n y low e = year_of_given minus (padded 4 n) n y (long_enough n low) (number_in-padded 4 n low) e

digits_year_front : (minus : Bool) (n : ℕ) (y : ℤ) (rest : List ℕ) → n < 2 ^ 128 → ends rest ≡ true → signed_year minus n ≡ some y → digits_year_at minus (padded 4 n ++ rest) ≡ some (y, rest)
unfolding digits_year_at
digits_year_front minus n y rest low end e =
    let l = lead_front (padded 4 n) rest (all_digits-padded 4 n low) end in
    rw (l.0, l.1, year_of_digits minus n y low e) refl

no_hyphen : (ds rest : List ℕ) → all_digits ds ≡ true → 0 < length ds → past (hyphen ∷ []) (ds ++ rest) ≡ None
unfolding past
no_hyphen [] rest all any = absurd (omega arith)
no_hyphen (c ∷ ds) rest all any =
    let p = and_parts (is_digit c) (all_digits ds) all in
    let b = digit_bounds c p.0 in
    rw (ne_eqb c hyphen (λ e. omega arith)) refl

pub year_front : (b : Bool) (y : ℤ) (rest : List ℕ) → IsYear b y → (b ≡ true → ends rest ≡ true) → year_at b (year_text b y ++ rest) ≡ some (y, rest)
unfolding year_at
year_front false y rest range end = rw range refl
year_front true (pos n) rest range end =
    let low : n < 2 ^ 128 = omega arith in
    let none = no_hyphen (padded 4 n) rest (all_digits-padded 4 n low) (padded_any 4 n low) in
    rw none (digits_year_front false n (pos n) rest low (end refl) (rw (lt-ltb n (2 ^ 63) range) refl))
year_front true (negsuc n) rest range end =
    let low : suc n < 2 ^ 128 = omega arith in
    let high : suc n ≤ 2 ^ 63 = omega arith in
    rw (past_front (hyphen ∷ []) (padded 4 (suc n) ++ rest)) (digits_year_front true (suc n) (negsuc n) rest low (end refl) (rw (lt-ltb 0 (suc n) (omega arith), le-leb (suc n) (2 ^ 63) high) refl))

-- ---- and back
tests_digits : IsDigitsTest (λ ds. all_digits ds ≡ true)
tests_digits = record {
  empty = refl;
  parts = λ c cs all. let p = and_parts (is_digit c) (all_digits cs) all in (digit_bounds c p.0, p.1);
  more = λ c cs range all. rw (le-leb 48 c range.0, le-leb c 57 range.1) all;
}

weighs_digits : WeighsDigits number_of
weighs_digits = record { empty = refl; more = λ c cs range. refl }

numerals : IsNumeralModel (λ ds. all_digits ds ≡ true) number_of
numerals = numerals_by_weight (λ ds. all_digits ds ≡ true) tests_digits number_of weighs_digits

-- digits without a 0 in front are those of their number
pub decimal_back : (ds : List ℕ) → all_digits ds ≡ true → 0 < length ds → (get_or ds 0 0 ≡ 48 → length ds ≡ 1) → number_of ds < 2 ^ 64 → decimal (number_of ds) ≡ ds
decimal_back ds all any front low = decimal-digits_value numerals ds all any front low

one_more_zero : (width n : ℕ) → length (decimal n) ≤ width → padded (suc width) n ≡ 48 ∷ padded width n
one_more_zero width n short = let e : suc width - length (decimal n) ≡ suc (width - length (decimal n)) = omega arith in rw e refl

no_zeros : (width n : ℕ) (ds : List ℕ) → decimal n ≡ ds → width ≤ length ds → padded width n ≡ ds
no_zeros width n ds same long =
    let e : width - length (decimal n) ≡ 0 = omega (arith, ap length same) in
    rw (e, same) refl

-- digits with zeros in front are those of their number with these zeros
pub padded_back : (c : ℕ) (cs : List ℕ) → all_digits (c ∷ cs) ≡ true → number_of (c ∷ cs) < 2 ^ 64 → padded (length (c ∷ cs)) (number_of (c ∷ cs)) ≡ c ∷ cs
padded_back c [] all low =
    no_zeros 1 (number_of (c ∷ [])) (c ∷ []) (decimal_back (c ∷ []) all (omega arith) (λ e. refl) low) (omega arith)
padded_back c (d ∷ ds) all low =
    elim (cases_eq c 48) [
      | inl zero_in_front ↦
          let p = and_parts (is_digit c) (all_digits (d ∷ ds)) all in
          let value : number_of (c ∷ d ∷ ds) ≡ number_of (d ∷ ds) = rw zero_in_front (omega arith) in
          let small : number_of (d ∷ ds) < 2 ^ 64 = omega arith in
          let below = number_of_below (d ∷ ds) p.1 in
          let short : length (decimal (number_of (d ∷ ds))) ≤ length (d ∷ ds) = decimal_short (length (d ∷ ds)) (number_of (d ∷ ds)) (omega arith) (omega arith) below in
          ap (padded (length (c ∷ d ∷ ds))) value ∙ one_more_zero (length (d ∷ ds)) (number_of (d ∷ ds)) short
          ∙ ap (λ (t : List ℕ). 48 ∷ t) (padded_back d ds p.1 small) ∙ ap (λ (k : ℕ). k ∷ d ∷ ds) (sym zero_in_front)
      | inr other ↦
          no_zeros (length (c ∷ d ∷ ds)) (number_of (c ∷ d ∷ ds)) (c ∷ d ∷ ds) (decimal_back (c ∷ d ∷ ds) all (omega arith) (λ e. absurd (other e)) low) (omega arith)
    ]

pub padded_4 : (ds : List ℕ) → all_digits ds ≡ true → is_long_enough ds ≡ true → number_of ds < 2 ^ 64 → padded 4 (number_of ds) ≡ ds
padded_4 [] all long low = absurd cc
padded_4 (c ∷ cs) all long low =
    elim (cases_Bool (eqb (length (c ∷ cs)) 4)) [
      | inl four ↦
          let e : 4 ≡ length (c ∷ cs) = sym (eqb-true (length (c ∷ cs)) 4 four) in
          ap (λ (w : ℕ). padded w (number_of (c ∷ cs))) e ∙ padded_back c cs all low
      | inr others ↦
          let g : ltb 4 (length (c ∷ cs)) && not (eqb c 48) ≡ true = rw others at long in
          let p = and_parts (ltb 4 (length (c ∷ cs))) (not (eqb c 48)) g in
          let more : 4 < length (c ∷ cs) = ltb-true 4 (length (c ∷ cs)) p.0 in
          no_zeros 4 (number_of (c ∷ cs)) (c ∷ cs) (decimal_back (c ∷ cs) all (omega arith) (λ e. absurd (eqb-false c 48 (not_true (eqb c 48) p.1) e)) low) (omega arith)
    ]

-- a year within 64 bits, and the text of its number
signed_back : (minus : Bool) (n : ℕ) (y : ℤ) → signed_year minus n ≡ some y → (n < 2 ^ 64) × IsYear true y × (year_text true y ≡ cond minus (hyphen ∷ padded 4 n) (padded 4 n))
signed_back false n y e =
    let g = cond_some (ltb n (2 ^ 63)) (pos n) y e in
    let low : n < 2 ^ 63 = ltb-true n (2 ^ 63) g.0 in
    subst (λ (z : ℤ). (n < 2 ^ 64) × IsYear true z × (year_text true z ≡ padded 4 n)) g.1 (omega arith, low, refl)
signed_back true zero y e = absurd cc
signed_back true (suc n) y e =
    let g = cond_some (ltb 0 (suc n) && leb (suc n) (2 ^ 63)) (negsuc n) y e in
    let p = and_parts (ltb 0 (suc n)) (leb (suc n) (2 ^ 63)) g.0 in
    let high : suc n ≤ 2 ^ 63 = leb-true (suc n) (2 ^ 63) p.1 in
    subst (λ (z : ℤ). (suc n < 2 ^ 64) × IsYear true z × (year_text true z ≡ hyphen ∷ padded 4 (suc n))) g.1 (omega arith, omega arith, refl)

year_of_back : (minus : Bool) (ds : List ℕ) (y : ℤ) → all_digits ds ≡ true → year_of minus ds ≡ some y → IsYear true y × (year_text true y ≡ cond minus (hyphen ∷ ds) ds)
unfolding year_of
year_of_back minus ds y all e =
    let g = cond_some_of (is_long_enough ds) (number_in ds >>= signed_year minus) y e in
    let b = bind_some (number_in ds) (signed_year minus) y g.1 in
    let k = cond_some_of (is_numeral ds) (kept (number_of ds)) b.0 b.1 in
    let n : number_of ds ≡ b.0 = (kept_is (number_of ds) b.0 k.1).0 in
    let s = signed_back minus b.0 y b.2 in
    let text : padded 4 b.0 ≡ ds = ap (padded 4) (sym n) ∙ padded_4 ds all g.0 (omega (arith, s.0)) in
    (s.1, s.2 ∙ ap (λ (t : List ℕ). cond minus (hyphen ∷ t) t) text)

with_rest : (minus : Bool) (ds text rest : List ℕ) → ds ++ rest ≡ text → cond minus (hyphen ∷ ds) ds ++ rest ≡ cond minus (hyphen ∷ text) text
with_rest true ds text rest e = ap (λ (t : List ℕ). hyphen ∷ t) e
with_rest false ds text rest e = e

digits_year_back : (minus : Bool) (y : ℤ) (text rest : List ℕ) → digits_year_at minus text ≡ some (y, rest) → IsYear true y × (year_text true y ++ rest ≡ cond minus (hyphen ∷ text) text)
unfolding digits_year_at
digits_year_back minus y text rest e =
    let m = map_some (year_of minus (lead text)) (λ (year : ℤ). (year, after_lead text)) (y, rest) e in
    let year : m.0 ≡ y = ap (λ (p : ℤ × List ℕ). p.0) m.2 in
    let behind : after_lead text ≡ rest = ap (λ (p : ℤ × List ℕ). p.1) m.2 in
    let b = year_of_back minus (lead text) y (lead_digits text) (m.1 ∙ ap some year) in
    (b.0, ap (λ (t : List ℕ). t ++ rest) b.1 ∙ with_rest minus (lead text) text rest (ap (λ (t : List ℕ). lead text ++ t) (sym behind) ∙ take-append-drop (lead_width text) text))

year_by_sign : (y : ℤ) (text rest : List ℕ) (o : Option (List ℕ)) → past (hyphen ∷ []) text ≡ o → signed_year_at text o ≡ some (y, rest) → (text ≡ year_text true y ++ rest) × IsYear true y
year_by_sign y text rest None hyphens e = let b = digits_year_back false y text rest e in (sym b.1, b.0)
year_by_sign y text rest (Some ds) hyphens e =
    let b = digits_year_back true y ds rest e in
    (past_back (hyphen ∷ []) text ds hyphens ∙ sym b.1, b.0)

pub year_back : (b : Bool) (y : ℤ) (text rest : List ℕ) → year_at b text ≡ some (y, rest) → (text ≡ year_text b y ++ rest) × IsYear b y
unfolding year_at
year_back false y text rest e =
    let p = some_is (pos 0, text) (y, rest) e in
    (ap (λ (p : ℤ × List ℕ). p.1) p, sym (ap (λ (p : ℤ × List ℕ). p.0) p))
year_back true y text rest e = year_by_sign y text rest (past (hyphen ∷ []) text) refl e
