-- What was read under the word of a kind was written so: the word, and the canonical text of the value.
use Rattle.std.proofs.Common.{◌≡◌, ℕ, ℤ, pos, negsuc, zero, suc, ◌^◌, ◌≤◌, Bool, true, false, ◌&&◌, leb, ltb, List, ◌∷◌, ◌++◌, Option, Some, None, refl, sym, ap, ◌∙◌, subst, inl, inr, arith}
use Rattle.std.specs.Prelude.{bytes_eq, codes, int_le, option_map}
use Rattle.std.proofs.lemmas.Bool.{and_parts, cases_Bool, leb-true, ltb-true, ne_eqb}
use Rattle.std.proofs.lemmas.Slice.Eq.{bytes_eq-Decides}
use Rattle.exi_names.specs.Wholes.{Number, number}
use Rattle.exi_names.specs.Seen as shape
use Rattle.exi_names.specs.Seen.{Value}
use Rattle.exi_names.specs.declared.moment.MomentKind.{MomentKind}
use Rattle.exi_names.specs.declared.moment.MomentKind.TheVariants as form
use Rattle.exi_numerals.specs.declared.float.Float.{Float}
use Rattle.exi_numerals.specs.Integers.{behind_sign, has_minus, integer_in, integer_of, integer_value, is_integer_text}
use Rattle.exi_numerals.specs.Decimals.{decimal_of, decimal_value, is_decimal_text, is_narrow}
use Rattle.exi_names.specs.Forms.{is_exponent, is_mantissa, is_special, no_number}
use Rattle.exi_numerals.specs.Floats.{float_value}
use Rattle.exi_numerals.proofs.Parts.{in_range_is}
use Rattle.exi_numerals.proofs.Kept.{number_ranges}
use Rattle.exi_digits.specs.Digits.{number_of as number_of_digits}
use Rattle.exi_calendar.specs.Reading.{moment_value}
use Rattle.exi_calendar.proofs.Fields.{cond_some_of, map_some, some, some_is}
use Rattle.exi_calendar.proofs.Whole.{value_back as moment_value_back}
use Rattle.exi_lexical.specs.Binaries.{base64_octets, hex_octets}
use Rattle.exi_lexical.specs.Values.{boolean_value, canonical, of_decimal, of_float}
use Rattle.exi_lexical.proofs.Hexes.{hex_fits}
use Rattle.exi_lexical.proofs.Sixes.{text_is}
use Rattle.exi_evtext.specs.Lines.{between_quotes, value_words}
use Rattle.exi_evtext.specs.Reading.{any_moment, if_canonical, is_spelled, moment_of, or_else, scalar_of}
use Rattle.exi_evtext.specs.Spelling.{IsItem, is_float, is_sign}

-- the value can be said, and is written so
abbrev pub IsWritten : List ℕ → List ℕ → Value → Type 0
IsWritten word digits v = IsItem v × (value_words v ≡ word ++ 32 ∷ between_quotes digits)

word_is : (word other : List ℕ) → bytes_eq word other ≡ true → word ≡ other
word_is word other h = (bytes_eq-Decides word other).0 h

-- ---- the canonical text
pub if_back : (digits : List ℕ) (o : Option Value) (v : Value) → if_canonical digits o ≡ some v → (o ≡ some v) × (canonical v ≡ digits)
if_back digits None v e = absurd cc
if_back digits (Some w) v e =
    let p = cond_some_of (bytes_eq (canonical w) digits) (some w) v e in
    (p.1, ap canonical (sym (some_is w v p.1)) ∙ word_is (canonical w) digits p.0)

-- ---- booleans
bool_back : (digits : List ℕ) (v : Value) → boolean_value true digits ≡ some v → IsWritten (codes "bool") digits v
unfolding boolean_value
bool_back digits v e =
    elim (cases_Bool (bytes_eq digits (codes "true"))) [
      | inl h ↦ let k : some (shape.boolean true false) ≡ some v = rw h at e in rw (← some_is (shape.boolean true false) v k, word_is digits (codes "true") h) (tt, refl)
      | inr h1 ↦ elim (cases_Bool (bytes_eq digits (codes "false"))) [
        | inl h ↦ let k : some (shape.boolean false false) ≡ some v = rw (h1, h) at e in rw (← some_is (shape.boolean false false) v k, word_is digits (codes "false") h) (tt, refl)
        | inr h2 ↦ elim (cases_Bool (bytes_eq digits (codes "1"))) [
          | inl h ↦ let k : some (shape.boolean true true) ≡ some v = rw (h1, h2, h) at e in rw (← some_is (shape.boolean true true) v k, word_is digits (codes "1") h) (tt, refl)
          | inr h3 ↦ elim (cases_Bool (bytes_eq digits (codes "0"))) [
            | inl h ↦ let k : some (shape.boolean false true) ≡ some v = rw (h1, h2, h3, h) at e in rw (← some_is (shape.boolean false true) v k, word_is digits (codes "0") h) (tt, refl)
            | inr h4 ↦ let k : None ≡ some v = rw (h1, h2, h3, h4) at e in absurd (cc)
          ]
        ]
      ]
    ]

-- ---- integers
normal : (minus : Bool) (n : ℕ) → number minus n ≡ number (number minus n).minus (number minus n).size
normal minus zero = refl
normal minus (suc n) = refl

read_normal : (text : List ℕ) (n : Number) → integer_value text ≡ some n → n ≡ number n.minus n.size
read_normal text n e =
    let p = cond_some_of (is_integer_text text) (some (integer_of text)) n e in
    let same = some_is (integer_of text) n p.1 in
    subst (λ (x : Number). x ≡ number x.minus x.size) same (normal (has_minus text) (number_of_digits (behind_sign text)))

int_back : (digits : List ℕ) (v : Value) → if_canonical digits (option_map shape.integer (integer_in is_spelled digits)) ≡ some v → IsWritten (codes "int") digits v
int_back digits v e =
    let p = if_back digits (option_map shape.integer (integer_in is_spelled digits)) v e in
    let q = map_some (integer_in is_spelled digits) shape.integer v p.0 in
    let n = q.0 in
    let r = in_range_is is_spelled (integer_value digits) n q.1 in
    let text : canonical (shape.integer n) ≡ digits = ap canonical q.2 ∙ p.1 in
    rw (← q.2) ((read_normal digits n r.0, r.1), ap (λ (x : List ℕ). codes "int " ++ between_quotes x) text)

-- ---- decimals
dec_back : (digits : List ℕ) (v : Value) → if_canonical digits (option_map of_decimal (decimal_value digits)) ≡ some v → IsWritten (codes "dec") digits v
dec_back digits v e =
    let p = if_back digits (option_map of_decimal (decimal_value digits)) v e in
    let q = map_some (decimal_value digits) of_decimal v p.0 in
    let d = q.0 in
    let c = cond_some_of (is_decimal_text digits && is_narrow (decimal_of digits)) (some (decimal_of digits)) d q.1 in
    let same = some_is (decimal_of digits) d c.1 in
    let narrow : is_narrow d ≡ true = ap is_narrow (sym same) ∙ (and_parts (is_decimal_text digits) (is_narrow (decimal_of digits)) c.0).1 in
    let both = and_parts (ltb d.whole (2 ^ 128)) (ltb d.back (2 ^ 128)) narrow in
    let text : canonical (of_decimal d) ≡ digits = ap canonical q.2 ∙ p.1 in
    rw (← q.2) ((ltb-true d.whole (2 ^ 128) both.0, ltb-true d.back (2 ^ 128) both.1), ap (λ (x : List ℕ). codes "dec " ++ between_quotes x) text)

-- ---- floats
exponent_plain : (e : ℤ) → is_exponent e ≡ true → is_special e ≡ false
exponent_plain (pos n) h = refl
exponent_plain (negsuc n) h =
    let l : n ≤ 16382 = leb-true n 16382 (and_parts (leb n 16382) (int_le (negsuc n) (pos 16383)) h).0 in
    ne_eqb n 16383 (λ k. omega (arith, k))

number_float : (f : Float) → is_mantissa f.mantissa ≡ true → is_exponent f.exponent ≡ true → is_float f.mantissa f.exponent ≡ true
number_float f m e = rw (exponent_plain f.exponent e, m, e) refl

special_float : (m : ℤ) (f : Float) → is_sign m ≡ true → some (record { mantissa = m; exponent = no_number }) ≡ some f → is_float f.mantissa f.exponent ≡ true
special_float m f h e = subst (λ (g : Float). is_float g.mantissa g.exponent ≡ true) (some_is (record { mantissa = m; exponent = no_number }) f e) h

read_float : (digits : List ℕ) (f : Float) → float_value digits ≡ some f → is_float f.mantissa f.exponent ≡ true
read_float digits f e =
    elim (cases_Bool (bytes_eq digits (codes "INF"))) [
      | inl h ↦ special_float (pos 1) f refl (rw h at e)
      | inr h1 ↦ elim (cases_Bool (bytes_eq digits (codes "-INF"))) [
        | inl h ↦ special_float (negsuc 0) f refl (rw (h1, h) at e)
        | inr h2 ↦ elim (cases_Bool (bytes_eq digits (codes "NaN"))) [
          | inl h ↦ special_float (pos 0) f refl (rw (h1, h2, h) at e)
          | inr h3 ↦ let r = number_ranges digits f (rw (h1, h2, h3) at e) in number_float f r.0 r.1
        ]
      ]
    ]

flo_back : (digits : List ℕ) (v : Value) → if_canonical digits (option_map of_float (float_value digits)) ≡ some v → IsWritten (codes "flo") digits v
flo_back digits v e =
    let p = if_back digits (option_map of_float (float_value digits)) v e in
    let q = map_some (float_value digits) of_float v p.0 in
    let f = q.0 in
    let text : canonical (of_float f) ≡ digits = ap canonical q.2 ∙ p.1 in
    rw (← q.2) (read_float digits f q.1, ap (λ (x : List ℕ). codes "flo " ++ between_quotes x) text)

-- ---- octets
hex_back : (digits : List ℕ) (v : Value) → if_canonical digits (option_map (shape.binary true) (hex_octets digits)) ≡ some v → IsWritten (codes "hex") digits v
hex_back digits v e =
    let p = if_back digits (option_map (shape.binary true) (hex_octets digits)) v e in
    let q = map_some (hex_octets digits) (shape.binary true) v p.0 in
    let text : canonical (shape.binary true q.0) ≡ digits = ap canonical q.2 ∙ p.1 in
    rw (← q.2) (hex_fits digits q.0 q.1, ap (λ (x : List ℕ). codes "hex " ++ between_quotes x) text)

base64_back : (digits : List ℕ) (v : Value) → option_map (shape.binary false) (base64_octets digits) ≡ some v → IsWritten (codes "base64") digits v
base64_back digits v e =
    let q = map_some (base64_octets digits) (shape.binary false) v e in
    let t = text_is digits q.0 q.1 in
    rw (← q.2) ((λ i. t.1 i), ap (λ (x : List ℕ). codes "base64 " ++ between_quotes x) (sym t.0))

-- ---- dates and times
moment_back : (kind : MomentKind) (digits : List ℕ) (v : Value) → moment_of kind digits ≡ some v → IsWritten (codes "mom") digits v
moment_back kind digits v e =
    let p = if_back digits (option_map shape.moment (moment_value kind digits)) v e in
    let q = map_some (moment_value kind digits) shape.moment v p.0 in
    let m = q.0 in
    let is = moment_value_back kind digits m q.1 in
    let text : canonical (shape.moment m) ≡ digits = ap canonical q.2 ∙ p.1 in
    rw (← q.2) (is.ranges, ap (λ (x : List ℕ). codes "mom " ++ between_quotes x) text)

else_back : (o more : Option Value) (v : Value) → or_else o more ≡ some v → (P : Type 0) → (o ≡ some v → P) → (more ≡ some v → P) → P
else_back None more v e P first second = second e
else_back (Some w) more v e P first second = first e

any_back : (digits : List ℕ) (v : Value) → any_moment digits ≡ some v → IsWritten (codes "mom") digits v
unfolding any_moment
any_back digits v e =
    let P = IsWritten (codes "mom") digits v in
    else_back (moment_of form.GYear digits) _ v e P (moment_back form.GYear digits v) (λ e1.
    else_back (moment_of form.GYearMonth digits) _ v e1 P (moment_back form.GYearMonth digits v) (λ e2.
    else_back (moment_of form.Date digits) _ v e2 P (moment_back form.Date digits v) (λ e3.
    else_back (moment_of form.DateTime digits) _ v e3 P (moment_back form.DateTime digits v) (λ e4.
    else_back (moment_of form.GMonth digits) _ v e4 P (moment_back form.GMonth digits v) (λ e5.
    else_back (moment_of form.GMonthDay digits) _ v e5 P (moment_back form.GMonthDay digits v) (λ e6.
    else_back (moment_of form.GDay digits) _ v e6 P (moment_back form.GDay digits v) (λ e7. moment_back form.Time digits v e7)))))))

-- ---- by their words
pub scalar_back : (word digits : List ℕ) (v : Value) → scalar_of word digits ≡ some v → IsWritten word digits v
unfolding scalar_of
scalar_back word digits v e =
    elim (cases_Bool (bytes_eq word (codes "bool"))) [
      | inl h ↦ rw (word_is word (codes "bool") h) (bool_back digits v (rw h at e))
      | inr h1 ↦ elim (cases_Bool (bytes_eq word (codes "int"))) [
        | inl h ↦ rw (word_is word (codes "int") h) (int_back digits v (rw (h1, h) at e))
        | inr h2 ↦ elim (cases_Bool (bytes_eq word (codes "dec"))) [
          | inl h ↦ rw (word_is word (codes "dec") h) (dec_back digits v (rw (h1, h2, h) at e))
          | inr h3 ↦ elim (cases_Bool (bytes_eq word (codes "flo"))) [
            | inl h ↦ rw (word_is word (codes "flo") h) (flo_back digits v (rw (h1, h2, h3, h) at e))
            | inr h4 ↦ elim (cases_Bool (bytes_eq word (codes "mom"))) [
              | inl h ↦ rw (word_is word (codes "mom") h) (any_back digits v (rw (h1, h2, h3, h4, h) at e))
              | inr h5 ↦ elim (cases_Bool (bytes_eq word (codes "hex"))) [
                | inl h ↦ rw (word_is word (codes "hex") h) (hex_back digits v (rw (h1, h2, h3, h4, h5, h) at e))
                | inr h6 ↦ elim (cases_Bool (bytes_eq word (codes "base64"))) [
                  | inl h ↦ rw (word_is word (codes "base64") h) (base64_back digits v (rw (h1, h2, h3, h4, h5, h6, h) at e))
                  | inr h7 ↦ let k : None ≡ some v = rw (h1, h2, h3, h4, h5, h6, h7) at e in absurd (cc)
                ]
              ]
            ]
          ]
        ]
      ]
    ]
