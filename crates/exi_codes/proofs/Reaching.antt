-- The states to which attributes alone lead.
use Rattle.std.proofs.Common.{◌≡◌, ℕ, zero, suc, ◌+◌, ◌*◌, ◌^◌, ◌<◌, ◌≤◌, Bool, true, false, not, ◌||◌, inl, inr, List, [], ◌∷◌, ◌++◌, length, map, filter, reverse, take, get_or, set, replicate, refl, sym, ap, ◌∙◌, subst, arith}
use Rattle.std.specs.Prelude.{◌==◌}
use Rattle.std.proofs.lemmas.Bool.{cases_Bool, cases_lt, cases_eq, eq-eqb, ne_eqb, true≢false, false≢true}
use Rattle.std.proofs.lemmas.List.{get_or-map, get_or_past, get_or-replicate, get_or-set_other, get_or-set_same, length-map, length-replicate, length-set, reverse-append, take_more}
use Rattle.exi_gram.specs.declared.grammar.Production.{Production}
use Rattle.exi_gram.specs.Additions.{attribute_states, attributes_from, is_attribute, rule_count}
use Rattle.exi_gram.specs.Reaching.{is_among, reached}
use Rattle.exi_gram.specs.Terminals.{Rule, Rules, rule}
use Rattle.exi_codes.proofs.Making.{map_more}
use Rattle.exi_codes.specs.Marks.{Marks, MarksAttributes}

-- ---- how many productions there are
count-append : (xs ys : List (List Rule)) → rule_count (xs ++ ys) ≡ rule_count xs + rule_count ys
count-append [] ys = omega arith
count-append (x ∷ xs) ys = omega (arith, count-append xs ys)

pub count_more : (xs : List (List Rule)) (i : ℕ) (d : List Rule) → i < length xs → rule_count (take (i + 1) xs) ≡ rule_count (take i xs) + length (get_or xs i d)
count_more xs i d less = omega (arith, ap rule_count (take_more xs i d less), count-append (take i xs) (get_or xs i d ∷ []))

-- ---- one step
step_done : (next : ℕ → List ℕ) (n : ℕ) (seen : List ℕ) → reached next n seen [] ≡ seen
unfolding reached
step_done next zero seen = refl
step_done next (suc n) seen = refl

step_end : (next : ℕ → List ℕ) (seen todo : List ℕ) → reached next zero seen todo ≡ seen
unfolding reached
step_end next seen todo = refl

step_old : (next : ℕ → List ℕ) (n p : ℕ) (seen ps : List ℕ) → is_among p seen ≡ true → reached next (suc n) seen (p ∷ ps) ≡ reached next n seen ps
unfolding reached
step_old next n p seen ps e = rw e refl

step_new : (next : ℕ → List ℕ) (n p : ℕ) (seen ps : List ℕ) → is_among p seen ≡ false → reached next (suc n) seen (p ∷ ps) ≡ reached next n (seen ++ p ∷ []) (next p ++ ps)
unfolding reached
step_new next n p seen ps e = rw e refl

-- ---- marks
among_last : (i p : ℕ) (seen : List ℕ) → is_among i (seen ++ p ∷ []) ≡ (is_among i seen || i == p)
among_last i p [] = by (i == p)
  where
    by : (b : Bool) → b || false ≡ b
    by true = refl
    by false = refl
among_last i p (q ∷ qs) = ap (λ b. i == q || b) (among_last i p qs) ∙ by (i == q) (is_among i qs) (i == p)
  where
    by : (a b c : Bool) → a || (b || c) ≡ (a || b) || c
    by true b c = refl
    by false b c = refl

same_is : (p : ℕ) → p == p ≡ true
same_is p = eq-eqb p p refl

or_true : (b : Bool) → b || true ≡ true
or_true true = refl
or_true false = refl

or_false : (b : Bool) → b || false ≡ b
or_false true = refl
or_false false = refl

pub no_marks : (n : ℕ) → Marks [] (replicate n false)
no_marks n = record { marked = λ i less. get_or-replicate n i false false (omega (arith, less, length-replicate n false)) }

within_new : (marks : List Bool) (p : ℕ) → get_or marks p true ≡ false → p < length marks
within_new marks p e = elim (cases_lt p (length marks)) [
  | inl less ↦ less
  | inr le ↦ absurd (true≢false (sym (get_or_past marks p true (omega (arith, le))) ∙ e))
]

same_default : (marks : List Bool) (p : ℕ) (a b : Bool) → p < length marks → get_or marks p a ≡ get_or marks p b
same_default [] p a b less = absurd (omega (arith, less))
same_default (m ∷ ms) zero a b less = refl
same_default (m ∷ ms) (suc p) a b less = same_default ms p a b (omega (arith, less))

not_false : (b : Bool) → not b ≡ true → b ≡ false
not_false true e = absurd (false≢true e)
not_false false e = refl

not_true : (b : Bool) → not b ≡ false → b ≡ true
not_true true e = refl
not_true false e = absurd (true≢false e)

pub new_within : (marks : List Bool) (p : ℕ) → not (get_or marks p true) ≡ true → p < length marks
new_within marks p e = within_new marks p (not_false (get_or marks p true) e)

pub mark_more : (seen : List ℕ) (marks : List Bool) (p : ℕ) → p < length marks → Marks seen marks → Marks (seen ++ p ∷ []) (set marks p true)
mark_more seen marks p within m = record {
  marked = λ i less. elim (cases_eq i p) [
    | inl same ↦
        let e : is_among i (seen ++ p ∷ []) ≡ true = among_last i p seen ∙ ap (λ b. is_among i seen || b) (ap (λ k. k == p) same ∙ same_is p) ∙ or_true (is_among i seen) in
        ap (λ k. get_or (set marks p true) k false) same ∙ get_or-set_same marks p true false within ∙ sym e
    | inr other_is ↦
        let few : i < length marks = omega (arith, less, length-set marks p true) in
        let e : is_among i (seen ++ p ∷ []) ≡ is_among i seen = among_last i p seen ∙ ap (λ b. is_among i seen || b) (ne_eqb i p other_is) ∙ or_false (is_among i seen) in
        get_or-set_other marks p i true false other_is ∙ m.marked i few ∙ sym e
  ];
}

mark_past : (seen : List ℕ) (marks : List Bool) (p : ℕ) → length marks ≤ p → Marks seen marks → Marks (seen ++ p ∷ []) marks
mark_past seen marks p past m = record {
  marked = λ i less.
      let e : is_among i (seen ++ p ∷ []) ≡ is_among i seen = among_last i p seen ∙ ap (λ b. is_among i seen || b) (ne_eqb i p (λ q. omega (arith, q, less, past))) ∙ or_false (is_among i seen) in
      m.marked i less ∙ sym e;
}

-- ---- the walk
pub record Walk (g : Rules) (n : ℕ) (marks : List Bool) (todo : List ℕ) : Type 0 where
  pub count : length marks ≡ length g.states
  pub seen : List ℕ
  pub marks_are : Marks seen marks
  pub goes_on : reached (attributes_from g) n seen todo ≡ attribute_states g

pub walk_starts : (g : Rules) (n count : ℕ) → n ≡ suc (rule_count g.states) → count ≡ length g.states → Walk g n (replicate count false) (0 ∷ [])
walk_starts g n count e c = record {
  count = length-replicate count false ∙ c;
  seen = [];
  marks_are = no_marks count;
  goes_on = ap (λ k. reached (attributes_from g) k [] (0 ∷ [])) e;
}

pub walk_done : (g : Rules) (n : ℕ) (marks : List Bool) → Walk g n marks [] → MarksAttributes g marks
walk_done g n marks w = record { count = w.count; reached = subst (λ (s : List ℕ). Marks s marks) (sym (step_done (attributes_from g) n w.seen) ∙ w.goes_on) w.marks_are }

pub walk_ends : (g : Rules) (n : ℕ) (marks : List Bool) (todo : List ℕ) → n ≡ 0 → Walk g n marks todo → MarksAttributes g marks
walk_ends g n marks todo e w = record { count = w.count; reached = subst (λ (s : List ℕ). Marks s marks) (sym (step_end (attributes_from g) w.seen todo) ∙ ap (λ k. reached (attributes_from g) k w.seen todo) (sym e) ∙ w.goes_on) w.marks_are }

nowhere : (g : Rules) (p : ℕ) → length g.states ≤ p → attributes_from g p ≡ []
nowhere g p past = ap (λ (s : List Rule). map (λ (r : Rule). r.to) (filter is_attribute s)) (get_or_past g.states p [] past)

pub walk_past : (g : Rules) (n : ℕ) (marks : List Bool) (p : ℕ) (ps : List ℕ) → not (get_or marks p true) ≡ false → Walk g (suc n) marks (p ∷ ps) → Walk g n marks ps
walk_past g n marks p ps e w = elim (cases_Bool (is_among p w.seen)) [
  | inl old_is ↦ record { count = w.count; seen = w.seen; marks_are = w.marks_are; goes_on = sym (step_old (attributes_from g) n p w.seen ps old_is) ∙ w.goes_on }
  | inr new_is ↦ elim (cases_lt p (length marks)) [
    | inl less ↦ absurd (true≢false (sym (sym (same_default marks p true false less) ∙ not_true (get_or marks p true) e) ∙ w.marks_are.marked p less ∙ new_is))
    | inr le ↦
        let past : length marks ≤ p = omega (arith, le) in
        let none : attributes_from g p ≡ [] = nowhere g p (omega (arith, past, w.count)) in
        record {
          count = w.count;
          seen = w.seen ++ p ∷ [];
          marks_are = mark_past w.seen marks p past w.marks_are;
          goes_on = ap (λ (l : List ℕ). reached (attributes_from g) n (w.seen ++ p ∷ []) (l ++ ps)) (sym none) ∙ sym (step_new (attributes_from g) n p w.seen ps new_is) ∙ w.goes_on;
        }
  ]
]

pub walk_on : (g : Rules) (n : ℕ) (marks : List Bool) (p : ℕ) (ps : List ℕ) → not (get_or marks p true) ≡ true → Walk g (suc n) marks (p ∷ ps) → Walk g n (set marks p true) (attributes_from g p ++ ps)
walk_on g n marks p ps e w =
    let less : p < length marks = new_within marks p e in
    let new_is : is_among p w.seen ≡ false = sym (w.marks_are.marked p less) ∙ same_default marks p false true less ∙ not_false (get_or marks p true) e in
    record {
      count = length-set marks p true ∙ w.count;
      seen = w.seen ++ p ∷ [];
      marks_are = mark_more w.seen marks p less w.marks_are;
      goes_on = sym (step_new (attributes_from g) n p w.seen ps new_is) ∙ w.goes_on;
    }

-- ---- the loops
pub count_step : (states : List (List Production)) (i count : ℕ) (state now : List Production) → i < length states → state ≡ get_or states i state → now ≡ state → length (get_or states i state) < 2 ^ 30 →
    (count ≡ rule_count (map (map rule) (take i states))) × (count ≤ i * 2 ^ 30) → (count + length now ≡ rule_count (map (map rule) (take (i + 1) states))) × (count + length now ≤ (i + 1) * 2 ^ 30)
count_step states i count state now less e n few h =
    let l : rule_count (map (map rule) (take (i + 1) states)) ≡ rule_count (map (map rule) (take i states)) + rule_count (map rule state ∷ []) =
    ap rule_count (map_more (map rule) states i state less e) ∙ count-append (map (map rule) (take i states)) (map rule state ∷ []) in
    let one : rule_count (map rule state ∷ []) ≡ length state = omega (arith, length-map state rule) in
    let same : length now ≡ length state = ap length n in
    let small : length state < 2 ^ 30 = omega (arith, few, ap length e) in
    (omega (arith, h.0, l, one, same), omega (arith, h.1, same, small))

last_first : (rest : List ℕ) (p : ℕ) → reverse (rest ++ p ∷ []) ≡ p ∷ reverse rest
last_first rest p = reverse-append rest (p ∷ [])

pub walk_next_past : (g : Rules) (k n : ℕ) (marks : List Bool) (p : ℕ) (stack rest : List ℕ) → k ≡ suc n → stack ≡ rest ++ p ∷ [] → not (get_or marks p true) ≡ false → Walk g k marks (reverse stack) → Walk g n marks (reverse rest)
walk_next_past g k n marks p stack rest e s h w =
    walk_past g n marks p (reverse rest) h (subst (λ (m : ℕ). Walk g m marks (p ∷ reverse rest)) e (subst (λ (z : List ℕ). Walk g k marks z) (ap reverse s ∙ last_first rest p) w))

pub walk_next_on : (g : Rules) (k n : ℕ) (marks : List Bool) (p : ℕ) (stack rest new : List ℕ) (state : List Rule) → k ≡ suc n → stack ≡ rest ++ p ∷ [] → not (get_or marks p true) ≡ true → state ≡ get_or g.states p [] →
    reverse new ≡ map (λ r. r.to) (filter is_attribute state) ++ reverse rest → Walk g k marks (reverse stack) → Walk g n (set marks p true) (reverse new)
walk_next_on g k n marks p stack rest new state e s h st r w =
    subst (λ (z : List ℕ). Walk g n (set marks p true) z) (sym (r ∙ ap (λ (z : List Rule). map (λ r. r.to) (filter is_attribute z) ++ reverse rest) st))
    (walk_on g n marks p (reverse rest) h (subst (λ (m : ℕ). Walk g m marks (p ∷ reverse rest)) e (subst (λ (z : List ℕ). Walk g k marks z) (ap reverse s ∙ last_first rest p) w)))

pub state_there : (states : List (List Production)) (p : ℕ) (state now : List Production) → p < length states → state ≡ get_or states p state → now ≡ state → map rule now ≡ get_or (map (map rule) states) p []
state_there states p state now less e n = ap (map rule) (n ∙ e) ∙ sym (get_or-map (map rule) states p state [] less)
