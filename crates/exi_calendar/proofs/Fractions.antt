-- The fraction of a second at the front of a text, both ways.
use Rattle.std.proofs.Common.{◌≡◌, ℕ, ◌^◌, ◌<◌, true, cond, eqb, List, [], ◌∷◌, ◌++◌, Option, Some, None, refl, sym, ap, ◌∙◌, subst, arith}
use Rattle.std.proofs.lemmas.Bool.{and_parts}
use Rattle.std.proofs.lemmas.List.{take-append-drop}
use Rattle.std.specs.Prelude.{option_map, not, IfSome}
use Rattle.exi_digits.specs.Digits.{all_digits, back_in, back_of, has_any, is_digit, is_numeral, kept}
use Rattle.exi_digits.proofs.Numbers.{kept_is, kept_some}
use Rattle.exi_calendar.specs.Parts.{IsFraction, point}
use Rattle.exi_calendar.specs.Forms.{SpellsFraction}
use Rattle.exi_calendar.specs.Reading.{after_lead, fraction_at, fraction_digits_at, lead, lead_width, optional_fraction_at, past}
use Rattle.exi_calendar.proofs.Fields.{cond_some_of, map_some, past_back, past_front, some, some_is}
use Rattle.exi_calendar.proofs.Years.{ends, lead_front, not_true}

given_front : (front digits behind rest : List ℕ) (back : ℕ) → front ≡ digits → behind ≡ rest → has_any digits ≡ true → back_in digits ≡ some back → cond (has_any front) (option_map {U = Option ℕ × List ℕ} (λ (b : ℕ). (some b, behind)) (back_in front)) None ≡ some (some back, rest)
given_front front digits behind rest back f b any value =
    let pair : ℕ → Option ℕ × List ℕ = λ k. (some k, rest) in
    rw (f, b, any) (ap (option_map pair) value)

digits_front : (digits rest : List ℕ) (back : ℕ) → is_numeral digits ≡ true → back_of digits ≡ back → back < 2 ^ 128 → ends rest ≡ true → fraction_digits_at (digits ++ rest) ≡ some (some back, rest)
unfolding fraction_digits_at
digits_front digits rest back numeral value low end =
    let p = and_parts (has_any digits) (all_digits digits) numeral in
    let l = lead_front digits rest p.1 end in
    let b : back_in digits ≡ some back = rw (p.1, value) (kept_some back low) in
    given_front (lead (digits ++ rest)) digits (after_lead (digits ++ rest)) rest back l.0 l.1 p.0 b

pub no_point : (rest : List ℕ) → ends rest ≡ true → past (point ∷ []) rest ≡ None
unfolding past
no_point [] end = refl
no_point (c ∷ rest) end =
    let p = and_parts (not (is_digit c)) (not (eqb c point)) end in
    rw (not_true (eqb c point) p.1) refl

pub fraction_front : (marks : Option (List ℕ)) (fraction : Option ℕ) (text rest : List ℕ) → IsFraction marks fraction → SpellsFraction fraction text → ends rest ≡ true → fraction_at marks (text ++ rest) ≡ some (fraction, rest)
unfolding fraction_at
fraction_front None None text rest range spells end = rw spells refl
fraction_front None (Some back) text rest range spells end = absurd cc
fraction_front (Some marks) None text rest range spells end = rw (spells, no_point rest end) refl
fraction_front (Some marks) (Some back) text rest range spells end =
    rw (spells.1, past_front (point ∷ []) (spells.0 ++ rest)) (digits_front spells.0 rest back spells.2 spells.3 range end)

-- ---- and back
digits_back : (fraction : Option ℕ) (text rest : List ℕ) → fraction_digits_at text ≡ some (fraction, rest) → (digits : List ℕ) × (text ≡ digits ++ rest) × SpellsFraction fraction (point ∷ digits) × IfSome fraction (λ back. back < 2 ^ 128)
unfolding fraction_digits_at
digits_back fraction text rest e =
    let g = cond_some_of (has_any (lead text)) (option_map (λ (back : ℕ). (some back, after_lead text)) (back_in (lead text))) (fraction, rest) e in
    let m = map_some (back_in (lead text)) (λ (back : ℕ). (some back, after_lead text)) (fraction, rest) g.1 in
    let value : some m.0 ≡ fraction = ap (λ (p : Option ℕ × List ℕ). p.0) m.2 in
    let behind : after_lead text ≡ rest = ap (λ (p : Option ℕ × List ℕ). p.1) m.2 in
    let k = cond_some_of (all_digits (lead text)) (kept (back_of (lead text))) m.0 m.1 in
    let n = kept_is (back_of (lead text)) m.0 k.1 in
    let numeral : is_numeral (lead text) ≡ true = rw (g.0, k.0) refl in
    let low : m.0 < 2 ^ 128 = omega arith in (
      lead text,
      sym (take-append-drop (lead_width text) text) ∙ ap (λ (t : List ℕ). lead text ++ t) behind,
      subst (λ (f : Option ℕ). SpellsFraction f (point ∷ lead text)) value (lead text, refl, numeral, n.0),
      subst (λ (f : Option ℕ). IfSome f (λ back. back < 2 ^ 128)) value low,
    )

fraction_by_point : (fraction : Option ℕ) (text rest : List ℕ) (o : Option (List ℕ)) → past (point ∷ []) text ≡ o → optional_fraction_at text o ≡ some (fraction, rest) → (piece : List ℕ) × (text ≡ piece ++ rest) × SpellsFraction fraction piece × IfSome fraction (λ back. back < 2 ^ 128)
fraction_by_point fraction text rest None points e =
    let p = some_is (None, text) (fraction, rest) e in
    let behind : text ≡ rest = ap (λ (q : Option ℕ × List ℕ). q.1) p in
    subst (λ (f : Option ℕ). (piece : List ℕ) × (text ≡ piece ++ rest) × SpellsFraction f piece × IfSome f (λ back. back < 2 ^ 128)) (ap (λ (q : Option ℕ × List ℕ). q.0) p) ([], behind, refl, tt)
fraction_by_point fraction text rest (Some digits) points e =
    let b = digits_back fraction digits rest e in
    (point ∷ b.0, past_back (point ∷ []) text digits points ∙ ap (λ (t : List ℕ). point ∷ t) b.1, b.2, b.3)

pub fraction_back : (marks : Option (List ℕ)) (fraction : Option ℕ) (text rest : List ℕ) → fraction_at marks text ≡ some (fraction, rest) → (piece : List ℕ) × (text ≡ piece ++ rest) × SpellsFraction fraction piece × IsFraction marks fraction
unfolding fraction_at
fraction_back None fraction text rest e =
    let p = some_is (None, text) (fraction, rest) e in
    let behind : text ≡ rest = ap (λ (q : Option ℕ × List ℕ). q.1) p in
    subst (λ (f : Option ℕ). (piece : List ℕ) × (text ≡ piece ++ rest) × SpellsFraction f piece × (f ≡ None)) (ap (λ (q : Option ℕ × List ℕ). q.0) p) ([], behind, refl, refl)
fraction_back (Some marks) fraction text rest e = fraction_by_point fraction text rest (past (point ∷ []) text) refl e
