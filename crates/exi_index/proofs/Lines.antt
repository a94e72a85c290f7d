-- Lines, read and said.
use Rattle.std.proofs.Common.{◌≡◌, ℕ, suc, ◌+◌, ◌^◌, ◌<◌, ◌≤◌, Bool, true, false, ◌&&◌, eqb, leb, ltb, List, [], ◌∷◌, ◌++◌, length, append_assoc, refl, sym, ap, ◌∙◌, subst, arith, inl, inr, Option, Some, None, Result, Ok, Err}
use Rattle.std.specs.Prelude.{All, decimal}
use Rattle.std.proofs.lemmas.List.{append-nil}
use Rattle.std.proofs.lemmas.List.Elements.{All-head, All-tail}
use Rattle.std.proofs.lemmas.Bool.{and_parts, and_from, cases_Bool, eqb-true, leb-true, le-leb, ltb-true, lt-ltb}
use Rattle.exi_digits.specs.Digits.{is_digit, has_any, all_digits, is_numeral, number_of}
use Rattle.exi_digits.specs.Splits.{before, behind, is_mark}
use Rattle.exi_digits.proofs.Decimals.{all_digits-decimal, decimal_short, has_any-decimal, number_of-decimal}
use Rattle.exi_digits.proofs.Splitting.{before_mark, behind_mark, digits_pass_none}
use Rattle.exi_index.specs.Hints.{Says, SaysAll, SaysFirst, ended, hint_in, hint_on, hints_in, in_front, is_hint, line_of, lines_from, lines_of, most_lines, told}
use Rattle.exi_index.specs.Laws.{IsSpelled}

-- ---- a line up to its line feed
pub whole_line : (place : ℕ) (line text rest : List ℕ) → behind (is_mark 10) text ≡ Some rest → lines_from place line text ≡ told place (hint_on place (line ++ before (is_mark 10) text)) (lines_from (suc place) [] rest)
unfolding lines_from
whole_line place line [] rest e = absurd cc
whole_line place line (c ∷ cs) rest e = elim (cases_Bool (eqb c 10)) [
  | inl is ↦
      let h : Some cs ≡ Some rest = (rw is refl) ∙ e in
      let same : cs ≡ rest = cc in
      rw (is, append-nil line) (ap (λ (x : List ℕ). told place (hint_on place line) (lines_from (suc place) [] x)) same)
  | inr not ↦
      let h : behind (is_mark 10) cs ≡ Some rest = (rw not refl) ∙ e in
      let k = whole_line place (line ++ c ∷ []) cs rest h in
      rw not (k ∙ ap (λ (x : List ℕ). told place (hint_on place x) (lines_from (suc place) [] rest)) (append_assoc line (c ∷ []) (before (is_mark 10) cs)))
]

open_line : (place : ℕ) (line text : List ℕ) → behind (is_mark 10) text ≡ None → lines_from place line text ≡ ended place (line ++ text)
unfolding lines_from
open_line place line [] e = ap (ended place) (sym (append-nil line))
open_line place line (c ∷ cs) e = elim (cases_Bool (eqb c 10)) [
  | inl is ↦
      let h : Some cs ≡ None = (rw is refl) ∙ e in
      absurd cc
  | inr not ↦
      let h : behind (is_mark 10) cs ≡ None = (rw not refl) ∙ e in
      let k = open_line place (line ++ c ∷ []) cs h in
      rw not (k ∙ ap (ended place) (append_assoc line (c ∷ []) cs))
]

-- ---- for the loop
abbrev pub with_front : List ℕ → Result (List ℕ) ℕ → Result (List ℕ) ℕ
with_front front (Ok hints) = Ok (front ++ hints)
with_front front (Err place) = Err place

pub no_front : (r : Result (List ℕ) ℕ) → r ≡ with_front [] r
no_front (Ok hints) = refl
no_front (Err place) = refl

one_more : (front : List ℕ) (hint : ℕ) (r : Result (List ℕ) ℕ) → with_front front (in_front hint r) ≡ with_front (front ++ hint ∷ []) r
one_more front hint (Ok hints) = ap (λ (x : List ℕ). Ok x) (sym (append_assoc front (hint ∷ []) hints))
one_more front hint (Err place) = refl

pub goes_on : (front text rest : List ℕ) (place hint : ℕ) → behind (is_mark 10) text ≡ Some rest → hint_on place (before (is_mark 10) text) ≡ Some hint → with_front front (lines_from place [] text) ≡ with_front (front ++ hint ∷ []) (lines_from (place + 1) [] rest)
goes_on front text rest place hint e h =
    let k = whole_line place [] text rest e in
    let next : suc place ≡ place + 1 = omega arith in
    ap (with_front front) (k ∙ ap (λ (x : Option ℕ). told place x (lines_from (suc place) [] rest)) h) ∙ one_more front hint (lines_from (suc place) [] rest)
    ∙ ap (λ (n : ℕ). with_front (front ++ hint ∷ []) (lines_from n [] rest)) next

pub no_hint : (front text rest : List ℕ) (place : ℕ) → behind (is_mark 10) text ≡ Some rest → hint_on place (before (is_mark 10) text) ≡ None → with_front front (lines_from place [] text) ≡ Err place
no_hint front text rest place e h =
    let k = whole_line place [] text rest e in
    ap (with_front front) (k ∙ ap (λ (x : Option ℕ). told place x (lines_from (suc place) [] rest)) h)

pub no_end : (front text : List ℕ) (place : ℕ) → 0 < length text → behind (is_mark 10) text ≡ None → with_front front (lines_from place [] text) ≡ Err place
no_end front [] place lt e = absurd (omega arith)
no_end front (c ∷ cs) place lt e = ap (with_front front) (open_line place [] (c ∷ cs) e)

pub at_end : (front : List ℕ) (place : ℕ) → with_front front (lines_from place [] []) ≡ Ok front
unfolding lines_from
at_end front place = ap (λ (x : List ℕ). Ok x) (append-nil front)

-- a place at which there is a hint
pub hint_place : (place hint : ℕ) (line : List ℕ) → hint_on place line ≡ Some hint → place ≤ 65536
hint_place place hint line e = elim (cases_Bool (leb place most_lines)) [
  | inl is ↦ leb-true place most_lines is
  | inr not ↦ let h : None ≡ Some hint = (rw not refl) ∙ e in absurd cc
]

-- ---- the laws
is_said : (place hint : ℕ) (line : List ℕ) → hint_on place line ≡ Some hint → Says line hint
is_said place hint line e = elim (cases_Bool (leb place most_lines)) [
  | inr not ↦ let h : None ≡ Some hint = (rw not refl) ∙ e in absurd cc
  | inl is ↦ elim (cases_Bool (is_hint line)) [
    | inr none ↦ let h : None ≡ Some hint = (rw (is, none) refl) ∙ e in absurd cc
    | inl some ↦
        let h : Some (number_of line) ≡ Some hint = (rw (is, some) refl) ∙ e in
        let same : number_of line ≡ hint = cc in
        let p = and_parts (is_numeral line) (leb (length line) 20 && ltb (number_of line) (2 ^ 64)) some in
        let q = and_parts (leb (length line) 20) (ltb (number_of line) (2 ^ 64)) p.1 in
        let low : number_of line < 2 ^ 64 = ltb-true (number_of line) (2 ^ 64) q.1 in
        record { digits = p.0; few = leb-true (length line) 20 q.0; number = same; low = subst (λ (n : ℕ). n < 2 ^ 64) same low }
  ]
]

said_is : (place hint : ℕ) (line : List ℕ) → place ≤ 65536 → Says line hint → hint_on place line ≡ Some hint
said_is place hint line le s =
    let low : number_of line < 2 ^ 64 = subst (λ (n : ℕ). n < 2 ^ 64) (sym s.number) s.low in
    let some : is_hint line ≡ true = and_from (is_numeral line) (leb (length line) 20 && ltb (number_of line) (2 ^ 64)) s.digits (and_from (leb (length line) 20) (ltb (number_of line) (2 ^ 64)) (le-leb (length line) 20 s.few) (lt-ltb (number_of line) (2 ^ 64) low)) in
    rw (le-leb place most_lines le, some) (ap (λ (n : ℕ). Some n) s.number)

-- what was told, before others
told_ok : (place : ℕ) (o : Option ℕ) (r : Result (List ℕ) ℕ) (hints : List ℕ) → told place o r ≡ Ok hints → (hint : ℕ) × (others : List ℕ) × (o ≡ Some hint) × (r ≡ Ok others) × (hints ≡ hint ∷ others)
told_ok place None r hints e = absurd cc
told_ok place (Some hint) (Err p) hints e = absurd cc
told_ok place (Some hint) (Ok others) hints e =
    let same : hint ∷ others ≡ hints = cc in
    (hint, others, refl, refl, sym same)

Spelled : ℕ → List ℕ → List ℕ → Type 0
Spelled place text hints = SaysAll text hints × (length hints + place ≤ 65537)

lines_spelled : (place : ℕ) (line text hints : List ℕ) → place ≤ 65537 → lines_from place line text ≡ Ok hints → Spelled place (line ++ text) hints
unfolding lines_from Spelled
lines_spelled place [] [] hints le e =
    let none : [] ≡ hints = cc in
    subst (λ (hs : List ℕ). SaysAll [] hs × (length hs + place ≤ 65537)) none (refl, omega arith)
lines_spelled place (d ∷ ds) [] hints le e = absurd cc
lines_spelled place line (c ∷ cs) hints le e = elim (cases_Bool (eqb c 10)) [
  | inr not ↦
      let k = lines_spelled place (line ++ c ∷ []) cs hints le ((rw not refl) ∙ e) in
      subst (λ (t : List ℕ). SaysAll t hints × (length hints + place ≤ 65537)) (append_assoc line (c ∷ []) cs) k
  | inl is ↦
      let t = told_ok place (hint_on place line) (lines_from (suc place) [] cs) hints ((rw is refl) ∙ e) in
      let few = hint_place place t.0 line t.2 in
      let k = lines_spelled (suc place) [] cs t.1 (omega arith) t.3 in
      let feed : c ≡ 10 = eqb-true c 10 is in
      subst (λ (hs : List ℕ). SaysAll (line ++ c ∷ cs) hs × (length hs + place ≤ 65537)) (sym t.4) (
        (
          cs,
          record { line = line; parts = ap (λ (d : ℕ). line ++ d ∷ cs) feed; says = is_said place t.0 line t.2 },
          k.0,
        ),
        omega (arith, k.1),
      )
]

no_feed : (c : ℕ) → is_digit c ≡ true → is_mark 10 c ≡ false
no_feed c e =
    let p = and_parts (leb 48 c) (leb c 57) e in
    let high : 48 ≤ c = leb-true 48 c p.0 in
    elim (cases_Bool (eqb c 10)) [
      | inl is ↦ let same : c ≡ 10 = eqb-true c 10 is in absurd (omega arith)
      | inr not ↦ not
    ]

lines_said : (place : ℕ) (text hints : List ℕ) → SaysAll text hints → length hints + place ≤ 65537 → lines_from place [] text ≡ Ok hints
unfolding lines_from
lines_said place text [] said le = rw said refl
lines_said place text (hint ∷ hints) said le =
    let first = said.1 in
    let line = first.line in
    let digits : all_digits line ≡ true = (and_parts (has_any line) (all_digits line) first.says.digits).1 in
    let none = digits_pass_none (is_mark 10) line no_feed digits in
    let front : before (is_mark 10) text ≡ line = ap (before (is_mark 10)) first.parts ∙ before_mark (is_mark 10) line 10 said.0 none refl in
    let rest : behind (is_mark 10) text ≡ Some said.0 = ap (behind (is_mark 10)) first.parts ∙ behind_mark (is_mark 10) line 10 said.0 none refl in
    let k = lines_said (suc place) said.0 hints said.2 (omega (arith, le)) in
    whole_line place [] text said.0 rest ∙ (rw (front, said_is place hint line (omega (arith, le)) first.says, k) refl)

pub read_spelled : (text hints : List ℕ) → hints_in text ≡ Ok hints → IsSpelled text hints
unfolding hints_in Spelled
read_spelled text hints e = let k = lines_spelled 1 [] text hints (omega arith) e in record { says = k.0; few = omega (arith, k.1) }

pub spelled_read : (text hints : List ℕ) → SaysAll text hints → length hints ≤ most_lines → hints_in text ≡ Ok hints
unfolding hints_in
spelled_read text hints said few = lines_said 1 text hints said (omega (arith, few))

line_says : (hint : ℕ) → hint < 2 ^ 64 → Says (decimal hint) hint
line_says hint low =
    let wide : hint < 2 ^ 128 = omega arith in
    record {
      digits = and_from (has_any (decimal hint)) (all_digits (decimal hint)) (has_any-decimal hint wide) (all_digits-decimal hint wide);
      few = decimal_short 20 hint (omega arith) wide (omega arith);
      number = number_of-decimal hint wide;
      low = low;
    }

lines_say : (hints : List ℕ) → All (λ h. h < 2 ^ 64) hints → SaysAll (lines_of hints) hints
lines_say [] all = refl
lines_say (hint ∷ hints) all = (
  lines_of hints,
  record { line = decimal hint; parts = append_assoc (decimal hint) (10 ∷ []) (lines_of hints); says = line_says hint (All-head (λ h. h < 2 ^ 64) hint hints all) },
  lines_say hints (All-tail (λ h. h < 2 ^ 64) hint hints all),
)

pub written_read : (hints : List ℕ) → All (λ h. h < 2 ^ 64) hints → length hints ≤ most_lines → hints_in (lines_of hints) ≡ Ok hints
written_read hints all few = spelled_read (lines_of hints) hints (lines_say hints all) few

pub behind_shorter : (text rest : List ℕ) → behind (is_mark 10) text ≡ Some rest → length rest < length text
behind_shorter [] rest e = absurd cc
behind_shorter (c ∷ cs) rest e = elim (cases_Bool (eqb c 10)) [
  | inl is ↦
      let h : Some cs ≡ Some rest = (rw is refl) ∙ e in
      let same : cs ≡ rest = cc in
      omega (arith, ap length same)
  | inr not ↦
      let h : behind (is_mark 10) cs ≡ Some rest = (rw not refl) ∙ e in
      let k = behind_shorter cs rest h in
      omega arith
]

pub not_empty : (text : List ℕ) → false ≡ eqb (length text) 0 → 0 < length text
not_empty [] e = absurd cc
not_empty (c ∷ cs) e = omega arith
