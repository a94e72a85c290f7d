-- Texts between quotes, of which the bytes that stand for themselves are written in runs.
use Rattle.std.proofs.Common.{◌≡◌, ◌<◌, ◌≤◌, ◌+◌, ◌-◌, ℕ, zero, suc, List, [], ◌∷◌, ◌++◌, length, take, drop, get_or, refl, true, false, not, eqb, leb, ◌&&◌, inl, inr, sym, ap, ◌∙◌, arith, append_assoc}
use Rattle.std.specs.Prelude.{slice_range}
use Rattle.std.specs.List.{flat_map}
use Rattle.std.proofs.lemmas.Bool.{cases_Bool, cases_lt, leb-true, ne_eqb, not-true}
use Rattle.std.proofs.lemmas.List.{drop-drop, append-nil, take_more, drop_more, length-drop, get_or-drop}
use Rattle.std.proofs.lemmas.List.Folds.{drop_split}
use Rattle.std.proofs.lemmas.Grind.{flat_map-append}
use Rattle.exi_evtext.specs.Lines.{escaped}
use Rattle.exi_evtext.specs.Parsing.{run_width, stops_run}
use Rattle.exi_names.specs.Characters.{are_plain, between, is_plain}
use Rattle.exi_names.proofs.Together.{and_l, and_r}
use Rattle.exi_evtext.proofs.Lays.{take_add}

-- one place more
range_more : (s : List ℕ) (start place : ℕ) → start ≤ place → place < length s → slice_range s start (place + 1) ≡ slice_range s start place ++ get_or s place 0 ∷ []
range_more s start place le lt =
    let i = place - start in
    let up : (place + 1) - start ≡ i + 1 = omega arith in
    let inside : i < length (drop start s) = omega (arith, length-drop start s) in
    let same : start + i ≡ place = omega arith in
    ap (λ (n : ℕ). take n (drop start s)) up
    ∙ take_more (drop start s) i 0 inside
    ∙ ap (λ (b : ℕ). take i (drop start s) ++ b ∷ []) (get_or-drop start s i 0 ∙ ap (λ (n : ℕ). get_or s n 0) same)

-- one byte more stands for itself
pub plain_more : (s : List ℕ) (start place : ℕ) → start ≤ place → place < length s → flat_map escaped (slice_range s start place) ≡ slice_range s start place
    → escaped (get_or s place 0) ≡ get_or s place 0 ∷ [] → flat_map escaped (slice_range s start (place + 1)) ≡ slice_range s start (place + 1)
plain_more s start place le lt plain self =
    let b = get_or s place 0 in
    let more = range_more s start place le lt in
    ap (flat_map escaped) more
    ∙ flat_map-append escaped (slice_range s start place) (b ∷ [])
    ∙ ap (λ (x : List ℕ). x ++ (escaped b ++ [])) plain
    ∙ ap (λ (x : List ℕ). slice_range s start place ++ x) (append-nil (escaped b) ∙ self)
    ∙ sym more

-- a byte is escaped, behind those that stand for themselves
pub escape_step : (s out mid new goal mark : List ℕ) (start place : ℕ) → start ≤ place → place < length s → flat_map escaped (slice_range s start place) ≡ slice_range s start place
    → out ++ flat_map escaped (drop start s) ≡ goal → mid ≡ out ++ slice_range s start place → new ≡ mid ++ mark → escaped (get_or s place 0) ≡ mark
    → new ++ flat_map escaped (drop (place + 1) s) ≡ goal
escape_step s out mid new goal mark start place le lt plain done one two marks =
    let run = slice_range s start place in
    let rest = flat_map escaped (drop (place + 1) s) in
    let behind : flat_map escaped (drop place s) ≡ mark ++ rest = ap (flat_map escaped) (drop_more s place 0 lt) ∙ ap (λ (x : List ℕ). x ++ rest) marks in
    let all : flat_map escaped (drop start s) ≡ run ++ (mark ++ rest) =
    ap (flat_map escaped) (drop_split s start place le) ∙ flat_map-append escaped run (drop place s) ∙ ap (λ (x : List ℕ). x ++ flat_map escaped (drop place s)) plain ∙ ap (λ (x : List ℕ). run ++ x) behind in
    ap (λ (x : List ℕ). x ++ rest) (two ∙ ap (λ (x : List ℕ). x ++ mark) one)
    ∙ append_assoc (out ++ run) mark rest
    ∙ append_assoc out run (mark ++ rest)
    ∙ ap (λ (x : List ℕ). out ++ x) (sym all)
    ∙ done

-- ---- runs that are skipped
-- two ranges, one behind the other
range_join : (s : List ℕ) (start mid end : ℕ) → start ≤ mid → mid ≤ end → slice_range s start end ≡ slice_range s start mid ++ slice_range s mid end
range_join s start mid end le more =
    let i = mid - start in
    let n = end - mid in
    let whole : end - start ≡ i + n = omega arith in
    let place : start + i ≡ mid = omega arith in
    ap (λ (k : ℕ). take k (drop start s)) whole
    ∙ take_add i n (drop start s)
    ∙ ap (λ (x : List ℕ). take i (drop start s) ++ take n x) (drop-drop i start s ∙ ap (λ (k : ℕ). drop k s) place)

pub plain_join : (s : List ℕ) (start mid end : ℕ) → start ≤ mid → mid ≤ end → flat_map escaped (slice_range s start mid) ≡ slice_range s start mid → flat_map escaped (slice_range s mid end) ≡ slice_range s mid end
    → flat_map escaped (slice_range s start end) ≡ slice_range s start end
plain_join s start mid end le more one two =
    let a = slice_range s start mid in
    let b = slice_range s mid end in
    let split = range_join s start mid end le more in
    ap (flat_map escaped) split ∙ flat_map-append escaped a b ∙ ap (λ (x : List ℕ). x ++ flat_map escaped b) one ∙ ap (λ (x : List ℕ). a ++ x) two ∙ sym split

-- a byte that stops no run stands for itself
pub stands_alone : (b : ℕ) → stops_run b ≡ false → escaped b ≡ b ∷ []
stands_alone b h =
    elim (cases_Bool (eqb b 34)) [
      | inl q ↦ let k : stops_run b ≡ true = rw q refl in absurd (cc)
      | inr q ↦
          elim (cases_Bool (eqb b 92)) [
            | inl s ↦ let k : stops_run b ≡ true = rw (q, s) refl in absurd (cc)
            | inr s ↦
                elim (cases_Bool (eqb b 10)) [
                  | inl t ↦ let k : stops_run b ≡ true = rw (q, s, t) refl in absurd (cc)
                  | inr t ↦
                      elim (cases_Bool (eqb b 13)) [
                        | inl u ↦ let k : stops_run b ≡ true = rw (q, s, t, u) refl in absurd (cc)
                        | inr u ↦
                            elim (cases_Bool (eqb b 9)) [
                              | inl v ↦ let k : stops_run b ≡ true = rw (q, s, t, u, v) refl in absurd (cc)
                              | inr v ↦ rw (q, s, t, u, v) refl
                            ]
                      ]
                ]
          ]
    ]

pub run_stands : (t : List ℕ) → flat_map escaped (take (run_width t) t) ≡ take (run_width t) t
run_stands [] = refl
run_stands (b ∷ t) = elim (cases_Bool (stops_run b)) [
  | inl h ↦ rw h refl
  | inr h ↦ rw h (ap (λ (x : List ℕ). x ++ flat_map escaped (take (run_width t) t)) (stands_alone b h) ∙ ap (λ (x : List ℕ). b ∷ x) (run_stands t))
]

-- plain bytes stand for themselves
plain_alone : (b : ℕ) → is_plain b ≡ true → escaped b ≡ b ∷ []
plain_alone b p =
    let two : (between 0x20 0x7E b && not (eqb b 0x22)) ≡ true = and_l (between 0x20 0x7E b && not (eqb b 0x22)) (not (eqb b 0x5C)) p in
    let low : 0x20 ≤ b = leb-true 0x20 b (and_l (leb 0x20 b) (leb b 0x7E) (and_l (between 0x20 0x7E b) (not (eqb b 0x22)) two)) in
    let quote : eqb b 34 ≡ false = not-true (eqb b 34) (and_r (between 0x20 0x7E b) (not (eqb b 0x22)) two) in
    let back : eqb b 92 ≡ false = not-true (eqb b 92) (and_r (between 0x20 0x7E b && not (eqb b 0x22)) (not (eqb b 0x5C)) p) in
    let ten : eqb b 10 ≡ false = ne_eqb b 10 (λ e. omega (arith, e, low)) in
    let thirteen : eqb b 13 ≡ false = ne_eqb b 13 (λ e. omega (arith, e, low)) in
    let nine : eqb b 9 ≡ false = ne_eqb b 9 (λ e. omega (arith, e, low)) in
    rw (quote, back, ten, thirteen, nine) refl

pub plain_stands : (bs : List ℕ) → are_plain bs ≡ true → flat_map escaped bs ≡ bs
plain_stands [] p = refl
plain_stands (b ∷ bs) p =
    ap (λ (x : List ℕ). x ++ flat_map escaped bs) (plain_alone b (and_l (is_plain b) (are_plain bs) p))
    ∙ ap (λ (x : List ℕ). b ∷ x) (plain_stands bs (and_r (is_plain b) (are_plain bs) p))
