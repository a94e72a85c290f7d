-- The states of a normal grammar, one after another.
use Rattle.std.proofs.Common.{◌≡◌, ℕ, zero, suc, ◌+◌, ◌-◌, ◌<◌, ◌≤◌, Bool, true, false, cond, inl, inr, List, [], ◌∷◌, ◌++◌, length, map, get_or, take, drop, refl, sym, ap, subst, ◌∙◌, arith, append_assoc, length-append}
use Rattle.std.specs.Prelude.{◌==◌, ◌||◌, Option, None, Some, ltb, nat_lt, not, bytes_eq, Result, Ok, Err}
use Rattle.std.specs.List.{list_any, position, position_or_len}
use Rattle.std.proofs.lemmas.Bool.{both_ways, cases_Bool, lt-ltb, ltb-true, ltb-false, le-ltb, ne_eqb, eq-eqb}
use Rattle.std.proofs.lemmas.List.{length_push}
use Rattle.exi_draft.specs.Drafts.{Draft, States, is_end}
use Rattle.exi_gram.specs.Candidates.{class_of, same_class}
use Rattle.exi_gram.specs.Terminals.{Rule, Rules, Symbol, sd, ed, se, se_in, se_any, at, at_in, at_any, at_text, at_any_text, xsi_type, xsi_nil, ch, ch_text, ee, ns, sc, er, cm, pi, dt}
use Rattle.exi_gram.specs.declared.class.Class.TheVariants as class
use Rattle.exi_normal.specs.Normals.{Refusal, Row, Work, any_differ, differ, normal_made, number_of, place_of, rows_of, rules_from, too_large, with_list, with_one_list, with_rows, with_state, worked}
use Rattle.exi_normal.specs.Working.{next_of, target_of, with_row}
use Rattle.exi_normal.proofs.Same.{place_here, place_past}

pub end_is : (on : Symbol) → is_end on ≡ same_class (class_of on) class.Ee
end_is (se name) = refl
end_is (se_in uri) = refl
end_is (at name representation) = refl
end_is (at_in uri) = refl
end_is (at_text name) = refl
end_is (ch representation) = refl
end_is sd = refl
end_is ed = refl
end_is se_any = refl
end_is at_any = refl
end_is at_any_text = refl
end_is xsi_type = refl
end_is xsi_nil = refl
end_is ch_text = refl
end_is ee = refl
end_is ns = refl
end_is sc = refl
end_is er = refl
end_is cm = refl
end_is pi = refl
end_is dt = refl

-- ---- lists by their places
any_first : {X : Type 0} (p : X → Bool) (x : X) (xs : List X) → p x ≡ true → list_any p (x ∷ xs) ≡ true
any_first p x xs e = ap (λ b. b || list_any p xs) e

any_past : {X : Type 0} (p : X → Bool) (x : X) (xs : List X) → p x ≡ false → list_any p (x ∷ xs) ≡ list_any p xs
any_past p x xs e = ap (λ b. b || list_any p xs) e

pub any_is_below : {X : Type 0} (p : X → Bool) (xs : List X) → list_any p xs ≡ nat_lt (position_or_len p xs) (length xs)
any_is_below p [] = refl
any_is_below p (x ∷ xs) = elim (cases_Bool (p x)) [
  | inl e ↦
      let l : position_or_len p (x ∷ xs) ≡ 0 = place_here p x xs e in
      let less : position_or_len p (x ∷ xs) < length (x ∷ xs) = omega (arith, l) in
      any_first p x xs e ∙ sym (lt-ltb (position_or_len p (x ∷ xs)) (length (x ∷ xs)) less)
  | inr n ↦ any_past p x xs n ∙ any_is_below p xs ∙ shifted (position_or_len p xs) (length xs) ∙ ap (λ k. nat_lt k (length (x ∷ xs))) (sym (place_past p x xs n))
]
  where
    shifted : (a b : ℕ) → nat_lt a b ≡ nat_lt (suc a) (suc b)
    shifted a b = elim (cases_Bool (nat_lt a b)) [
      | inl e ↦ let l : a < b = ltb-true a b e in e ∙ sym (lt-ltb (suc a) (suc b) (omega (arith, l)))
      | inr n ↦ let l : b ≤ a = ltb-false a b n in n ∙ sym (le-ltb (suc a) (suc b) (omega (arith, l)))
    ]

none_is_last : {X : Type 0} (p : X → Bool) (xs : List X) → list_any p xs ≡ false → position_or_len p xs ≡ length xs
none_is_last p [] f = refl
none_is_last p (x ∷ xs) f = elim (cases_Bool (p x)) [
  | inl e ↦ absurd (both_ways (list_any p (x ∷ xs)) f (any_first p x xs e))
  | inr n ↦ place_past p x xs n ∙ ap suc (none_is_last p xs (sym (any_past p x xs n) ∙ f))
]

place_is : (from : ℕ) (list : List ℕ) (ls : List (List ℕ)) → place_of from list ls ≡ cond (list_any (bytes_eq list) ls) (Some (from + position_or_len (bytes_eq list) ls)) None
place_is from list [] = refl
place_is from list (l ∷ ls) = elim (cases_Bool (bytes_eq list l)) [
  | inl e ↦
      let z : from ≡ from + position_or_len (bytes_eq list) (l ∷ ls) = let k : position_or_len (bytes_eq list) (l ∷ ls) ≡ 0 = place_here (bytes_eq list) l ls e in omega (arith, k) in
      ap (λ b. cond b (Some from) (place_of (suc from) list ls)) e ∙ ap Some z ∙ sym (ap (λ b. cond b (Some (from + position_or_len (bytes_eq list) (l ∷ ls))) None) (any_first (bytes_eq list) l ls e))
  | inr n ↦
      let z : suc from + position_or_len (bytes_eq list) ls ≡ from + position_or_len (bytes_eq list) (l ∷ ls) = let k : position_or_len (bytes_eq list) (l ∷ ls) ≡ suc (position_or_len (bytes_eq list) ls) = place_past (bytes_eq list) l ls n in omega (arith, k) in
      ap (λ b. cond b (Some from) (place_of (suc from) list ls)) n
      ∙ place_is (suc from) list ls
      ∙ ap (λ k. cond (list_any (bytes_eq list) ls) (Some k) None) z
      ∙ sym (ap (λ b. cond b (Some (from + position_or_len (bytes_eq list) (l ∷ ls))) None) (any_past (bytes_eq list) l ls n))
]

pub number_is : (list : List ℕ) (ls : List (List ℕ)) → number_of list ls ≡ position_or_len (bytes_eq list) ls
number_is list ls = elim (cases_Bool (list_any (bytes_eq list) ls)) [
  | inl e ↦
      let p : place_of 0 list ls ≡ Some (0 + position_or_len (bytes_eq list) ls) = place_is 0 list ls ∙ ap (λ b. cond b (Some (0 + position_or_len (bytes_eq list) ls)) None) e in
      let z : 0 + position_or_len (bytes_eq list) ls ≡ position_or_len (bytes_eq list) ls = omega arith in
      rw p z
  | inr n ↦
      let p : place_of 0 list ls ≡ None = place_is 0 list ls ∙ ap (λ b. cond b (Some (0 + position_or_len (bytes_eq list) ls)) None) n in
      rw p (sym (none_is_last (bytes_eq list) ls n))
]

pub with_is : (list : List ℕ) (ls : List (List ℕ)) → with_list list ls ≡ cond (list_any (bytes_eq list) ls) ls (ls ++ list ∷ [])
with_is list ls = elim (cases_Bool (list_any (bytes_eq list) ls)) [
  | inl e ↦
      let p : place_of 0 list ls ≡ Some (0 + position_or_len (bytes_eq list) ls) = place_is 0 list ls ∙ ap (λ b. cond b (Some (0 + position_or_len (bytes_eq list) ls)) None) e in
      rw (p, e) refl
  | inr n ↦
      let p : place_of 0 list ls ≡ None = place_is 0 list ls ∙ ap (λ b. cond b (Some (0 + position_or_len (bytes_eq list) ls)) None) n in
      rw (p, n) refl
]

pub any_map : {X Y : Type 0} (f : X → Y) (p : Y → Bool) (xs : List X) → list_any p (map f xs) ≡ list_any (λ x. p (f x)) xs
any_map f p [] = refl
any_map f p (x ∷ xs) = ap (λ b. p (f x) || b) (any_map f p xs)

pub place_map : {X Y : Type 0} (f : X → Y) (p : Y → Bool) (xs : List X) → position_or_len p (map f xs) ≡ position_or_len (λ x. p (f x)) xs
place_map f p [] = refl
place_map f p (x ∷ xs) = elim (cases_Bool (p (f x))) [
  | inl e ↦ place_here p (f x) (map f xs) e ∙ sym (place_here (λ x. p (f x)) x xs e)
  | inr n ↦ place_past p (f x) (map f xs) n ∙ ap suc (place_map f p xs) ∙ sym (place_past (λ x. p (f x)) x xs n)
]

map_last : {X Y : Type 0} (f : X → Y) (xs : List X) (x : X) → map f (xs ++ x ∷ []) ≡ map f xs ++ f x ∷ []
map_last f [] x = refl
map_last f (y ∷ ys) x = ap (λ z. f y ∷ z) (map_last f ys x)

pub map_if : {X Y : Type 0} (f : X → Y) (b : Bool) (xs : List X) (x : X) → map f (cond b xs (xs ++ x ∷ [])) ≡ cond b (map f xs) (map f xs ++ f x ∷ [])
map_if f true xs x = refl
map_if f false xs x = map_last f xs x

module _ {X : Type 0} (items : X → List ℕ) where
  -- a list that is put in
  pub put_number : (keys : List X) (x : X) → position_or_len (λ y. bytes_eq (items x) (items y)) keys ≡ number_of (items x) (map items keys)
  put_number keys x = sym (number_is (items x) (map items keys) ∙ place_map items (bytes_eq (items x)) keys)

  pub put_list : (keys : List X) (x : X) → map items (cond (list_any (λ y. bytes_eq (items x) (items y)) keys) keys (keys ++ x ∷ [])) ≡ with_list (items x) (map items keys)
  put_list keys x =
      map_if items (list_any (λ y. bytes_eq (items x) (items y)) keys) keys x
      ∙ ap (λ b. cond b (map items keys) (map items keys ++ items x ∷ [])) (sym (any_map items (bytes_eq (items x)) keys))
      ∙ sym (with_is (items x) (map items keys))

  -- one that is known
  pub known_list : (keys : List X) (list : List ℕ) → position_or_len (λ y. bytes_eq list (items y)) keys < length keys → map items keys ≡ with_list list (map items keys)
  known_list keys list less =
      let e : list_any (bytes_eq list) (map items keys) ≡ true = any_map items (bytes_eq list) keys ∙ any_is_below (λ y. bytes_eq list (items y)) keys ∙ lt-ltb (position_or_len (λ y. bytes_eq list (items y)) keys) (length keys) less in
      sym (with_is list (map items keys) ∙ ap (λ b. cond b (map items keys) (map items keys ++ list ∷ [])) e)

  pub known_number : (keys : List X) (list : List ℕ) → position_or_len (λ y. bytes_eq list (items y)) keys ≡ number_of list (map items keys)
  known_number keys list = sym (number_is list (map items keys) ∙ place_map items (bytes_eq list) keys)

-- ---- they only grow
grows_by : (b : Bool) (list : List ℕ) (ls : List (List ℕ)) → length ls ≤ length (cond b ls (ls ++ list ∷ []))
grows_by true list ls = omega arith
grows_by false list ls = let e : length (ls ++ list ∷ []) ≡ length ls + 1 = length_push ls list in omega (arith, e)

pub grows_with : (list : List ℕ) (ls : List (List ℕ)) → length ls ≤ length (with_list list ls)
grows_with list ls = subst (λ (z : List (List ℕ)). length ls ≤ length z) (sym (with_is list ls)) (grows_by (list_any (bytes_eq list) ls) list ls)

few_by : (b : Bool) (p : List ℕ → Bool) (ls : List (List ℕ)) → list_any p ls ≡ b → position_or_len p ls ≤ length ls
few_by true p ls e = let l : position_or_len p ls < length ls = ltb-true (position_or_len p ls) (length ls) (sym (any_is_below p ls) ∙ e) in omega (arith, l)
few_by false p ls e = let l : position_or_len p ls ≡ length ls = none_is_last p ls e in omega (arith, l)

pub number_few : (list : List ℕ) (ls : List (List ℕ)) → number_of list ls ≤ length ls
number_few list ls = subst (λ (n : ℕ). n ≤ length ls) (sym (number_is list ls)) (few_by (list_any (bytes_eq list) ls) (bytes_eq list) ls refl)

row_by_end : (b : Bool) (list : List ℕ) (ls : List (List ℕ)) → length ls ≤ length (cond b ls (with_list list ls))
row_by_end true list ls = omega arith
row_by_end false list ls = grows_with list ls

pub grows_row : (r : Row) (ls : List (List ℕ)) → length ls ≤ length (with_row r ls)
grows_row r ls = row_by_end (is_end r.on) r.targets ls

rows_by_end : (b : Bool) (r : Row) (rs : List Row) (ls : List (List ℕ)) → cond b (with_rows rs ls) (with_rows rs (with_list r.targets ls)) ≡ with_rows rs (cond b ls (with_list r.targets ls))
rows_by_end true r rs ls = refl
rows_by_end false r rs ls = refl

pub rows_step : (r : Row) (rs : List Row) (ls : List (List ℕ)) → with_rows (r ∷ rs) ls ≡ with_rows rs (with_row r ls)
rows_step r rs ls = rows_by_end (is_end r.on) r rs ls

pub grows_rows : (rs : List Row) (ls : List (List ℕ)) → length ls ≤ length (with_rows rs ls)
grows_rows [] ls = omega arith
grows_rows (r ∷ rs) ls =
    let a : length ls ≤ length (with_row r ls) = grows_row r ls in
    let b : length (with_row r ls) ≤ length (with_rows rs (with_row r ls)) = grows_rows rs (with_row r ls) in
    subst (λ (z : List (List ℕ)). length ls ≤ length z) (sym (rows_step r rs ls)) (omega (arith, a, b))

rules_by_end : (b : Bool) (own : ℕ) (r : Row) (rs : List Row) (ls : List (List ℕ))
    → ◌≡◌ {A = List Rule} (cond b (record { on = r.on; to = own; inner = r.inner } ∷ rules_from own rs ls) (record { on = r.on; to = number_of r.targets ls; inner = r.inner } ∷ rules_from own rs (with_list r.targets ls)))
    (record { on = r.on; to = cond b own (number_of r.targets ls); inner = r.inner } ∷ rules_from own rs (cond b ls (with_list r.targets ls)))
rules_by_end true own r rs ls = refl
rules_by_end false own r rs ls = refl

pub rules_step : (own : ℕ) (r : Row) (rs : List Row) (ls : List (List ℕ)) → rules_from own (r ∷ rs) ls ≡ record { on = r.on; to = target_of own r ls; inner = r.inner } ∷ rules_from own rs (with_row r ls)
rules_step own r rs ls = rules_by_end (is_end r.on) own r rs ls

-- ---- state by state
abbrev pub is_over : ℕ → Work → Bool
is_over most w = ltb most (length w.lists) || (length w.states == length w.lists)

pub worked_over : (states : States) (most n : ℕ) (w : Work) → is_over most w ≡ true → worked states most n w ≡ w
unfolding worked
worked_over states most zero w e = refl
worked_over states most (suc n) w e = rw e refl

pub worked_on : (states : States) (most n : ℕ) (w : Work) → is_over most w ≡ false → worked states most (suc n) w ≡ worked states most n (next_of states w)
unfolding worked
worked_on states most n w e = rw e refl

pub worked_none : (states : States) (most : ℕ) (w : Work) → worked states most zero w ≡ w
unfolding worked
worked_none states most w = refl

many_over : (most : ℕ) (w : Work) → most < length w.lists → is_over most w ≡ true
many_over most w less = ap (λ b. b || (length w.states == length w.lists)) (lt-ltb most (length w.lists) less)

pub worked_many : (states : States) (most n : ℕ) (w : Work) → most < length w.lists → worked states most n w ≡ w
worked_many states most n w less = worked_over states most n w (many_over most w less)

pub next_grows : (states : States) (w : Work) → length w.lists ≤ length (next_of states w).lists
next_grows states w = grows_rows (rows_of states (get_or w.lists (length w.states) [])) w.lists

pub few_over : (most : ℕ) (w : Work) → length w.lists ≤ most → (length w.states ≡ length w.lists → ⊥) → is_over most w ≡ false
few_over most w le n = (λ i. le-ltb most (length w.lists) le i || ne_eqb (length w.states) (length w.lists) n i)

pub same_over : (most : ℕ) (w : Work) → length w.states ≡ length w.lists → is_over most w ≡ true
same_over most w e = by (ltb most (length w.lists)) (eq-eqb (length w.states) (length w.lists) e)
  where
    by : (b : Bool) → (length w.states == length w.lists) ≡ true → b || (length w.states == length w.lists) ≡ true
    by true h = refl
    by false h = h

-- ---- keys that are put in
pub put_place : {X Y : Type 0} (f : X → Y) (p : Y → Bool) (keys : List X) → position_or_len (λ x. p (f x)) keys ≡ position_or_len p (map f keys)
put_place f p keys = sym (place_map f p keys)

pub put_keys : {X Y : Type 0} (f : X → Y) (p : Y → Bool) (keys : List X) (x : X) → map f (cond (list_any (λ y. p (f y)) keys) keys (keys ++ x ∷ [])) ≡ cond (list_any p (map f keys)) (map f keys) (map f keys ++ f x ∷ [])
put_keys f p keys x = map_if f (list_any (λ y. p (f y)) keys) keys x ∙ ap (λ b. cond b (map f keys) (map f keys ++ f x ∷ [])) (sym (any_map f p keys))
