-- The least code of a production, and what is kept so that it is found.
use Rattle.std.proofs.Common.{◌≡◌, ℕ, zero, suc, ◌+◌, ◌<◌, ◌≤◌, Bool, true, false, cond, List, [], ◌∷◌, ◌++◌, All, drop, filter, get_or, length, refl, slice_get, ap, sym, ◌∙◌, arith, inl, inr, Option, Some, None}
use Rattle.std.specs.Option.{is_some, option_map}
use Rattle.std.specs.List.{list_any}
use Rattle.std.proofs.lemmas.Bool.{cases_Bool}
use Rattle.std.proofs.lemmas.List.{drop_all, drop_more}
use Rattle.std.proofs.lemmas.Option.{none-some}
use Rattle.exi_gram.specs.Codes.{Coded, coded, coded_from}
use Rattle.exi_builtin.specs.declared.learnable.Learnable.{Learnable}
use Rattle.exi_builtin.specs.declared.learnable.Learnable.TheVariants as learnable
use Rattle.exi_builtin.specs.LeastCodes.{first_code, first_place, is_ch, is_ee, is_it}
use Rattle.exi_builtin.specs.Layout.{laid_out, laid_seconds}
use Rattle.exi_builtin.specs.Marks.{IsLearned, LeadsTo, code_at_place}
use Rattle.exi_builtin.specs.Uses.{is_characters, is_end}
use Rattle.exi_builtin.proofs.Numbering.{all_codes}
use Rattle.exi_builtin.proofs.Shapes.{firsts_kept, kept_shape, laid_of, shape}
use Rattle.exi_gram.specs.declared.options.Options.{Options}
use Rattle.exi_builtin.specs.declared.learnable.Room.{Room}
use Rattle.exi_builtin.specs.BuiltIn.{is_kept, left_of, written}
use Rattle.exi_builtin.specs.Learning.{behind_learned}

-- ---- the first that passes
pub first_same : {X : Type 0} (f g : X → Bool) (xs : List X) → ((x : X) → f x ≡ g x) → first_place f xs ≡ first_place g xs
first_same f g [] same = refl
first_same f g (x ∷ xs) same = ap (λ b. cond b (Some 0) (option_map suc (first_place f xs))) (same x) ∙ ap (λ o. cond (g x) (Some 0) (option_map suc o)) (first_same f g xs same)

abbrev pub is_found : Option ℕ → Bool
is_found None = false
is_found (Some k) = true

pub any_found : {X : Type 0} (f : X → Bool) (xs : List X) → list_any f xs ≡ is_found (first_place f xs)
any_found f [] = refl
any_found f (x ∷ xs) = elim (cases_Bool (f x)) [
  | inl yes_is ↦ rw yes_is refl
  | inr no_is ↦ rw no_is (any_found f xs ∙ by (first_place f xs))
]
  where
    by : (o : Option ℕ) → is_found o ≡ is_found (option_map suc o)
    by None = refl
    by (Some k) = refl

pub found_kept : (n : ℕ) (o : Option ℕ) → is_found (option_map (code_at_place n) o) ≡ is_found o
found_kept n None = refl
found_kept n (Some k) = refl

all_tail : {X : Type 0} (P : X → Type 0) (x : X) (xs : List X) → All P (x ∷ xs) → All P xs
all_tail P x xs h i d less = h (suc i) d (omega (arith, less))

pub first_none : (f : Learnable → Bool) (xs : List Learnable) → ((x : Learnable) → IsLearned x → f x ≡ false) → All IsLearned xs → first_place f xs ≡ None
first_none f [] never only = refl
first_none f (x ∷ xs) never only = rw (never x (only 0 x (omega arith))) (rw (first_none f xs never (all_tail IsLearned x xs only)) refl)

-- ---- what is kept, with one more learned
pub leads_push : (learned : List Learnable) (test : Learnable → Bool) (place new : Option ℕ) (x : Learnable) → new ≡ cond (test x) (Some (length learned)) place → LeadsTo learned test place → LeadsTo (x ∷ learned) test new
leads_push learned test place new x is h = elim (cases_Bool (test x)) [
  | inl yes_is ↦
      let now : new ≡ Some (length learned) = rw yes_is at is in
      let zero_is : 0 ≡ code_at_place (length (x ∷ learned)) (length learned) = omega arith in
      record {
        first = rw (yes_is, now) (ap Some zero_is);
        within = λ p e. let same : length learned ≡ p = some_number (length learned) p (sym now ∙ e) in omega (arith, same);
      }
  | inr no_is ↦
      let now : new ≡ place = rw no_is at is in
      record {
        first = rw (no_is, now) (ap (option_map suc) h.first ∙ later place h.within);
        within = λ p e. let less = h.within p (sym now ∙ e) in omega (arith, less);
      }
]
  where
    some_number : (a b : ℕ) → Some a ≡ Some b → a ≡ b
    some_number a b e = cc

    later : (o : Option ℕ) → ((p : ℕ) → o ≡ Some p → p < length learned) → option_map suc (option_map (code_at_place (length learned)) o) ≡ option_map (code_at_place (length (x ∷ learned))) o
    later None within = refl
    later (Some p) within = let same : suc (code_at_place (length learned) p) ≡ code_at_place (length (x ∷ learned)) p = omega (arith, within p refl) in ap Some same

-- ---- the tests
pub ch_same : (x : Learnable) → is_characters x ≡ is_ch true x
ch_same (learnable.Known name a) = refl
ch_same learnable.SeAny = refl
ch_same learnable.AtAny = refl
ch_same (learnable.Ch true) = refl
ch_same (learnable.Ch false) = refl
ch_same (learnable.Ee b) = refl
ch_same learnable.Ed = refl
ch_same learnable.Ns = refl
ch_same learnable.Sc = refl
ch_same learnable.Er = refl
ch_same learnable.Cm = refl
ch_same learnable.Pi = refl

pub ee_same : (x : Learnable) → is_end x ≡ is_ee true x
ee_same (learnable.Known name a) = refl
ee_same learnable.SeAny = refl
ee_same learnable.AtAny = refl
ee_same (learnable.Ch b) = refl
ee_same (learnable.Ee true) = refl
ee_same (learnable.Ee false) = refl
ee_same learnable.Ed = refl
ee_same learnable.Ns = refl
ee_same learnable.Sc = refl
ee_same learnable.Er = refl
ee_same learnable.Cm = refl
ee_same learnable.Pi = refl

-- what no use adds
abbrev pub NotByUse : Learnable → Type 0
NotByUse (learnable.Known name attribute) = ⊥
NotByUse learnable.SeAny = Unit {0}
NotByUse learnable.AtAny = Unit {0}
NotByUse (learnable.Ch one_part) = one_part ≡ false
NotByUse (learnable.Ee one_part) = one_part ≡ false
NotByUse learnable.Ed = Unit {0}
NotByUse learnable.Ns = Unit {0}
NotByUse learnable.Sc = Unit {0}
NotByUse learnable.Er = Unit {0}
NotByUse learnable.Cm = Unit {0}
NotByUse learnable.Pi = Unit {0}

-- ---- a place among those that the options leave
pub kept_found : (test keep : Learnable → Bool) (xs : List Learnable) (i place : ℕ) (d : Learnable) (all : Option ℕ) → i < length xs → keep (get_or xs i d) ≡ true → test (get_or xs i d) ≡ true → all ≡ option_map (λ k. place + k) (first_place test (filter keep (drop i xs))) → all ≡ Some place
kept_found test keep xs i place d all within kept passes e =
    let same : place + 0 ≡ place = omega arith in
    e ∙ ap (λ ys. option_map (λ k. place + k) (first_place test (filter keep ys))) (drop_more xs i d within) ∙ rw (kept, passes) (ap Some same)

pub kept_on : (test keep : Learnable → Bool) (xs : List Learnable) (i place : ℕ) (d : Learnable) (all : Option ℕ) → i < length xs → keep (get_or xs i d) ≡ true → test (get_or xs i d) ≡ false → all ≡ option_map (λ k. place + k) (first_place test (filter keep (drop i xs))) →
    all ≡ option_map (λ k. place + 1 + k) (first_place test (filter keep (drop (i + 1) xs)))
kept_on test keep xs i place d all within kept passes e =
    e ∙ ap (λ ys. option_map (λ k. place + k) (first_place test (filter keep ys))) (drop_more xs i d within) ∙ rw (kept, passes) (by (first_place test (filter keep (drop (i + 1) xs))))
  where
    by : (o : Option ℕ) → option_map (λ k. place + k) (option_map suc o) ≡ option_map (λ k. place + 1 + k) o
    by None = refl
    by (Some k) = let same : place + suc k ≡ place + 1 + k = omega arith in ap Some same

pub kept_over : (test keep : Learnable → Bool) (xs : List Learnable) (i place : ℕ) (d : Learnable) (all : Option ℕ) → i < length xs → keep (get_or xs i d) ≡ false → all ≡ option_map (λ k. place + k) (first_place test (filter keep (drop i xs))) →
    all ≡ option_map (λ k. place + k) (first_place test (filter keep (drop (i + 1) xs)))
kept_over test keep xs i place d all within kept e = e ∙ ap (λ ys. option_map (λ k. place + k) (first_place test (filter keep ys))) (drop_more xs i d within) ∙ rw kept refl

pub kept_start : (o : Option ℕ) → o ≡ option_map (λ k. 0 + k) o
kept_start None = refl
kept_start (Some k) = let same : k ≡ 0 + k = omega arith in ap Some same

pub kept_end : (test keep : Learnable → Bool) (xs : List Learnable) (i place : ℕ) (all : Option ℕ) → length xs ≤ i → all ≡ option_map (λ k. place + k) (first_place test (filter keep (drop i xs))) → all ≡ None
kept_end test keep xs i place all past e = e ∙ ap (λ ys. option_map (λ k. place + k) (first_place test (filter keep ys))) (drop_all i xs past)

-- ---- the first of those behind a place
pub drop_there : {X : Type 0} (xs : List X) (i : ℕ) (x : X) → slice_get xs i ≡ Some x → drop i xs ≡ x ∷ drop (suc i) xs
drop_there [] i x e = absurd (none-some x e)
drop_there (y ∷ ys) zero x e = cc
drop_there (y ∷ ys) (suc i) x e = drop_there ys i x e

pub behind_found : {X : Type 0} (test : X → Bool) (xs : List X) (i : ℕ) (x : X) (all : Option ℕ) → slice_get xs i ≡ Some x → test x ≡ true → all ≡ option_map (λ k. i + k) (first_place test (drop i xs)) → all ≡ Some i
behind_found test xs i x all there passes e =
    let same : i + 0 ≡ i = omega arith in
    e ∙ ap (λ ys. option_map (λ k. i + k) (first_place test ys)) (drop_there xs i x there) ∙ rw passes (ap Some same)

pub behind_on : {X : Type 0} (test : X → Bool) (xs : List X) (i : ℕ) (x : X) (all : Option ℕ) → slice_get xs i ≡ Some x → test x ≡ false → all ≡ option_map (λ k. i + k) (first_place test (drop i xs)) → all ≡ option_map (λ k. i + 1 + k) (first_place test (drop (i + 1) xs))
behind_on test xs i x all there passes e =
    let next : suc i ≡ i + 1 = omega arith in
    e ∙ ap (λ ys. option_map (λ k. i + k) (first_place test ys)) (drop_there xs i x there) ∙ rw passes (ap (λ j. option_map (λ k. i + k) (option_map suc (first_place test (drop j xs)))) next) ∙ by (first_place test (drop (i + 1) xs))
  where
    by : (o : Option ℕ) → option_map (λ k. i + k) (option_map suc o) ≡ option_map (λ k. i + 1 + k) o
    by None = refl
    by (Some k) = let same : i + suc k ≡ i + 1 + k = omega arith in ap Some same

pub behind_past : {X : Type 0} (test : X → Bool) (xs : List X) (i : ℕ) (all : Option ℕ) → length xs ≤ i → all ≡ option_map (λ k. i + k) (first_place test (drop i xs)) → all ≡ None
behind_past test xs i all past e = e ∙ ap (λ ys. option_map (λ k. i + k) (first_place test ys)) (drop_all i xs past)

-- ---- the least code
abbrev pub earlier : {X : Type 0} → Option X → Option X → Option X
earlier (Some x) other = Some x
earlier None other = other

code-append : {X : Type 0} (test : X → Bool) (cs ds : List (Coded X)) → first_code test (cs ++ ds) ≡ earlier (first_code test cs) (first_code test ds)
code-append test [] ds = refl
code-append test (c ∷ cs) ds = elim (cases_Bool (test c.item)) [
  | inl yes_is ↦ rw yes_is refl
  | inr no_is ↦ rw no_is (code-append test cs ds)
]

abbrev pub parts_at : List ℕ → ℕ → ℕ → List ℕ
parts_at front from k = front ++ (from + k) ∷ []

code_from : {X : Type 0} (test : X → Bool) (front : List ℕ) (from : ℕ) (xs : List X) → first_code test (coded_from front from xs) ≡ option_map (parts_at front from) (first_place test xs)
code_from test front from [] = refl
code_from test front from (x ∷ xs) = elim (cases_Bool (test x)) [
  | inl yes_is ↦ let same : from ≡ from + 0 = omega arith in rw yes_is (ap (λ k. Some (front ++ k ∷ [])) same)
  | inr no_is ↦ rw no_is (code_from test front (suc from) xs ∙ by (first_place test xs))
]
  where
    by : (o : Option ℕ) → option_map (parts_at front (suc from)) o ≡ option_map (parts_at front from) (option_map suc o)
    by None = refl
    by (Some k) = let same : suc from + k ≡ from + suc k = omega arith in ap (λ n. Some (front ++ n ∷ [])) same

pub least : (test : Learnable → Bool) (learned firsts singles members : List Learnable) (n first second : ℕ) → n ≡ length learned → first ≡ n + length firsts → second ≡ length singles →
    first_code test (coded (shape (learned ++ firsts) (laid_seconds singles members)))
    ≡ earlier (option_map (parts_at [] 0) (first_place test learned)) (earlier (option_map (parts_at [] n) (first_place test firsts)) (earlier (option_map (parts_at (first ∷ []) 0) (first_place test singles)) (option_map (parts_at (first ∷ second ∷ []) 0) (first_place test members))))
least test learned firsts singles members n first second n_is first_is second_is =
    let one = coded_from [] 0 learned in
    let two = coded_from [] n firsts in
    let three = coded_from (first ∷ []) 0 singles in
    let four = coded_from (first ∷ second ∷ []) 0 members in
    let zero_is : second ≡ 0 + length singles = omega (arith, second_is) in
    let all = all_codes learned firsts singles members one (one ++ two) ((one ++ two) ++ three) (((one ++ two) ++ three) ++ four) n first second refl n_is refl first_is refl zero_is refl in
    ap (first_code test) (sym all)
    ∙ code-append test ((one ++ two) ++ three) four ∙ ap (λ o. earlier o (first_code test four)) (code-append test (one ++ two) three ∙ ap (λ o. earlier o (first_code test three)) (code-append test one two))
    ∙ rw (code_from test [] 0 learned, code_from test [] n firsts, code_from test (first ∷ []) 0 singles, code_from test (first ∷ second ∷ []) 0 members)
    (by (option_map (parts_at [] 0) (first_place test learned)) (option_map (parts_at [] n) (first_place test firsts)) (option_map (parts_at (first ∷ []) 0) (first_place test singles)) (option_map (parts_at (first ∷ second ∷ []) 0) (first_place test members)))
  where
    by : (a b c d : Option (List ℕ)) → earlier (earlier (earlier a b) c) d ≡ earlier a (earlier b (earlier c d))
    by (Some x) b c d = refl
    by None (Some x) c d = refl
    by None None (Some x) d = refl
    by None None None d = refl

-- ---- what no use adds is not found
not_used : (x y : Learnable) → NotByUse x → IsLearned y → is_it x y ≡ false
not_used (learnable.Known name attribute) y h one = absurd h
not_used learnable.SeAny (learnable.Known n a) h one = refl
not_used learnable.SeAny (learnable.Ch b) h one = refl
not_used learnable.SeAny (learnable.Ee b) h one = refl
not_used learnable.SeAny learnable.SeAny h one = absurd one
not_used learnable.SeAny learnable.AtAny h one = absurd one
not_used learnable.SeAny learnable.Ed h one = absurd one
not_used learnable.SeAny learnable.Ns h one = absurd one
not_used learnable.SeAny learnable.Sc h one = absurd one
not_used learnable.SeAny learnable.Er h one = absurd one
not_used learnable.SeAny learnable.Cm h one = absurd one
not_used learnable.SeAny learnable.Pi h one = absurd one
not_used learnable.AtAny (learnable.Known n a) h one = refl
not_used learnable.AtAny (learnable.Ch b) h one = refl
not_used learnable.AtAny (learnable.Ee b) h one = refl
not_used learnable.AtAny learnable.SeAny h one = absurd one
not_used learnable.AtAny learnable.AtAny h one = absurd one
not_used learnable.AtAny learnable.Ed h one = absurd one
not_used learnable.AtAny learnable.Ns h one = absurd one
not_used learnable.AtAny learnable.Sc h one = absurd one
not_used learnable.AtAny learnable.Er h one = absurd one
not_used learnable.AtAny learnable.Cm h one = absurd one
not_used learnable.AtAny learnable.Pi h one = absurd one
not_used learnable.Ed (learnable.Known n a) h one = refl
not_used learnable.Ed (learnable.Ch b) h one = refl
not_used learnable.Ed (learnable.Ee b) h one = refl
not_used learnable.Ed learnable.SeAny h one = absurd one
not_used learnable.Ed learnable.AtAny h one = absurd one
not_used learnable.Ed learnable.Ed h one = absurd one
not_used learnable.Ed learnable.Ns h one = absurd one
not_used learnable.Ed learnable.Sc h one = absurd one
not_used learnable.Ed learnable.Er h one = absurd one
not_used learnable.Ed learnable.Cm h one = absurd one
not_used learnable.Ed learnable.Pi h one = absurd one
not_used learnable.Ns (learnable.Known n a) h one = refl
not_used learnable.Ns (learnable.Ch b) h one = refl
not_used learnable.Ns (learnable.Ee b) h one = refl
not_used learnable.Ns learnable.SeAny h one = absurd one
not_used learnable.Ns learnable.AtAny h one = absurd one
not_used learnable.Ns learnable.Ed h one = absurd one
not_used learnable.Ns learnable.Ns h one = absurd one
not_used learnable.Ns learnable.Sc h one = absurd one
not_used learnable.Ns learnable.Er h one = absurd one
not_used learnable.Ns learnable.Cm h one = absurd one
not_used learnable.Ns learnable.Pi h one = absurd one
not_used learnable.Sc (learnable.Known n a) h one = refl
not_used learnable.Sc (learnable.Ch b) h one = refl
not_used learnable.Sc (learnable.Ee b) h one = refl
not_used learnable.Sc learnable.SeAny h one = absurd one
not_used learnable.Sc learnable.AtAny h one = absurd one
not_used learnable.Sc learnable.Ed h one = absurd one
not_used learnable.Sc learnable.Ns h one = absurd one
not_used learnable.Sc learnable.Sc h one = absurd one
not_used learnable.Sc learnable.Er h one = absurd one
not_used learnable.Sc learnable.Cm h one = absurd one
not_used learnable.Sc learnable.Pi h one = absurd one
not_used learnable.Er (learnable.Known n a) h one = refl
not_used learnable.Er (learnable.Ch b) h one = refl
not_used learnable.Er (learnable.Ee b) h one = refl
not_used learnable.Er learnable.SeAny h one = absurd one
not_used learnable.Er learnable.AtAny h one = absurd one
not_used learnable.Er learnable.Ed h one = absurd one
not_used learnable.Er learnable.Ns h one = absurd one
not_used learnable.Er learnable.Sc h one = absurd one
not_used learnable.Er learnable.Er h one = absurd one
not_used learnable.Er learnable.Cm h one = absurd one
not_used learnable.Er learnable.Pi h one = absurd one
not_used learnable.Cm (learnable.Known n a) h one = refl
not_used learnable.Cm (learnable.Ch b) h one = refl
not_used learnable.Cm (learnable.Ee b) h one = refl
not_used learnable.Cm learnable.SeAny h one = absurd one
not_used learnable.Cm learnable.AtAny h one = absurd one
not_used learnable.Cm learnable.Ed h one = absurd one
not_used learnable.Cm learnable.Ns h one = absurd one
not_used learnable.Cm learnable.Sc h one = absurd one
not_used learnable.Cm learnable.Er h one = absurd one
not_used learnable.Cm learnable.Cm h one = absurd one
not_used learnable.Cm learnable.Pi h one = absurd one
not_used learnable.Pi (learnable.Known n a) h one = refl
not_used learnable.Pi (learnable.Ch b) h one = refl
not_used learnable.Pi (learnable.Ee b) h one = refl
not_used learnable.Pi learnable.SeAny h one = absurd one
not_used learnable.Pi learnable.AtAny h one = absurd one
not_used learnable.Pi learnable.Ed h one = absurd one
not_used learnable.Pi learnable.Ns h one = absurd one
not_used learnable.Pi learnable.Sc h one = absurd one
not_used learnable.Pi learnable.Er h one = absurd one
not_used learnable.Pi learnable.Cm h one = absurd one
not_used learnable.Pi learnable.Pi h one = absurd one
not_used (learnable.Ch p) (learnable.Known n a) h one = refl
not_used (learnable.Ch p) (learnable.Ch b) h one = rw (h, one) refl
not_used (learnable.Ch p) (learnable.Ee b) h one = refl
not_used (learnable.Ch p) learnable.SeAny h one = absurd one
not_used (learnable.Ch p) learnable.AtAny h one = absurd one
not_used (learnable.Ch p) learnable.Ed h one = absurd one
not_used (learnable.Ch p) learnable.Ns h one = absurd one
not_used (learnable.Ch p) learnable.Sc h one = absurd one
not_used (learnable.Ch p) learnable.Er h one = absurd one
not_used (learnable.Ch p) learnable.Cm h one = absurd one
not_used (learnable.Ch p) learnable.Pi h one = absurd one
not_used (learnable.Ee p) (learnable.Known n a) h one = refl
not_used (learnable.Ee p) (learnable.Ee b) h one = rw (h, one) refl
not_used (learnable.Ee p) (learnable.Ch b) h one = refl
not_used (learnable.Ee p) learnable.SeAny h one = absurd one
not_used (learnable.Ee p) learnable.AtAny h one = absurd one
not_used (learnable.Ee p) learnable.Ed h one = absurd one
not_used (learnable.Ee p) learnable.Ns h one = absurd one
not_used (learnable.Ee p) learnable.Sc h one = absurd one
not_used (learnable.Ee p) learnable.Er h one = absurd one
not_used (learnable.Ee p) learnable.Cm h one = absurd one
not_used (learnable.Ee p) learnable.Pi h one = absurd one

pub none_of : (x : Learnable) (xs : List Learnable) → NotByUse x → All IsLearned xs → first_place (is_it x) xs ≡ None
none_of (learnable.Known name attribute) xs h only = absurd h
none_of learnable.SeAny xs h only = first_none (is_it learnable.SeAny) xs (λ y one. not_used learnable.SeAny y tt one) only
none_of learnable.AtAny xs h only = first_none (is_it learnable.AtAny) xs (λ y one. not_used learnable.AtAny y tt one) only
none_of (learnable.Ch one_part) xs h only = first_none (is_it (learnable.Ch one_part)) xs (λ y one. not_used (learnable.Ch one_part) y h one) only
none_of (learnable.Ee one_part) xs h only = first_none (is_it (learnable.Ee one_part)) xs (λ y one. not_used (learnable.Ee one_part) y h one) only
none_of learnable.Ed xs h only = first_none (is_it learnable.Ed) xs (λ y one. not_used learnable.Ed y tt one) only
none_of learnable.Ns xs h only = first_none (is_it learnable.Ns) xs (λ y one. not_used learnable.Ns y tt one) only
none_of learnable.Sc xs h only = first_none (is_it learnable.Sc) xs (λ y one. not_used learnable.Sc y tt one) only
none_of learnable.Er xs h only = first_none (is_it learnable.Er) xs (λ y one. not_used learnable.Er y tt one) only
none_of learnable.Cm xs h only = first_none (is_it learnable.Cm) xs (λ y one. not_used learnable.Cm y tt one) only
none_of learnable.Pi xs h only = first_none (is_it learnable.Pi) xs (λ y one. not_used learnable.Pi y tt one) only

-- ---- all codes of a state
pub all_least : (test : Learnable → Bool) (o : Options) (r : Room) (learned firsts singles members : List Learnable) → laid_out firsts singles members ≡ written r →
    first_code test (coded (behind_learned learned (left_of o (written r))))
    ≡ earlier (option_map (parts_at [] 0) (first_place test learned)) (earlier (option_map (parts_at [] (length learned)) (first_place test (filter (is_kept o) firsts))) (earlier (option_map (parts_at ((length learned + length (filter (is_kept o) firsts)) ∷ []) 0) (first_place test (filter (is_kept o) singles))) (option_map (parts_at ((length learned + length (filter (is_kept o) firsts)) ∷ length (filter (is_kept o) singles) ∷ []) 0) (first_place test (filter (is_kept o) members)))))
all_least test o r learned firsts singles members laid =
    ap (λ p. first_code test (coded p)) (kept_shape o r learned firsts singles members laid)
    ∙ least test learned (filter (is_kept o) firsts) (filter (is_kept o) singles) (filter (is_kept o) members) (length learned) (length learned + length (filter (is_kept o) firsts)) (length (filter (is_kept o) singles)) refl refl refl

-- where a place is kept, one is there
pub leads_any : (learned : List Learnable) (test : Learnable → Bool) (place : Option ℕ) → LeadsTo learned test place → list_any test learned ≡ is_some place
leads_any learned test place h = any_found test learned ∙ ap is_found h.first ∙ by place
  where
    by : (o : Option ℕ) → is_found (option_map (code_at_place (length learned)) o) ≡ is_some o
    by None = refl
    by (Some k) = refl

pub found_ch : (learned : List Learnable) (one_part : Bool) (place : Option ℕ) → LeadsTo learned is_characters place → All IsLearned learned → cond one_part (option_map (code_at_place (length learned)) place) None ≡ first_place (is_it (learnable.Ch one_part)) learned
found_ch learned true place h only = sym h.first ∙ first_same is_characters (is_ch true) learned ch_same
found_ch learned false place h only = sym (none_of (learnable.Ch false) learned refl only)

pub found_ee : (learned : List Learnable) (one_part : Bool) (place : Option ℕ) → LeadsTo learned is_end place → All IsLearned learned → cond one_part (option_map (code_at_place (length learned)) place) None ≡ first_place (is_it (learnable.Ee one_part)) learned
found_ee learned true place h only = sym h.first ∙ first_same is_end (is_ee true) learned ee_same
found_ee learned false place h only = sym (none_of (learnable.Ee false) learned refl only)

-- the least code of one part, and of more where there is none of one
pub learned_least : (test : Learnable → Bool) (o : Options) (r : Room) (learned : List Learnable) (first : ℕ) → first_place test learned ≡ Some first →
    first_code test (coded (behind_learned learned (left_of o (written r)))) ≡ Some (first ∷ [])
learned_least test o r learned first found =
    let laid = laid_of r in
    let same : 0 + first ≡ first = omega arith in
    all_least test o r learned (written r).firsts laid.singles laid.members laid.is ∙ rw found (ap (λ k. Some (k ∷ [])) same)

pub written_least : (test : Learnable → Bool) (o : Options) (r : Room) (learned : List Learnable) (place : ℕ) → first_place test learned ≡ None → first_place test (written r).firsts ≡ Some place →
    first_code test (coded (behind_learned learned (left_of o (written r)))) ≡ Some ((length learned + place) ∷ [])
written_least test o r learned place none found =
    let laid = laid_of r in
    all_least test o r learned (written r).firsts laid.singles laid.members laid.is ∙ rw (none, firsts_kept o r, found) refl

longer_least : (test : Learnable → Bool) (o : Options) (r : Room) (learned firsts singles members : List Learnable) → laid_out firsts singles members ≡ written r → first_place test learned ≡ None → first_place test (written r).firsts ≡ None →
    first_code test (coded (behind_learned learned (left_of o (written r))))
    ≡ earlier (option_map (parts_at ((length learned + length firsts) ∷ []) 0) (first_place test (filter (is_kept o) singles))) (option_map (parts_at ((length learned + length firsts) ∷ length (filter (is_kept o) singles) ∷ []) 0) (first_place test (filter (is_kept o) members)))
longer_least test o r learned firsts singles members laid none behind =
    let left : filter (is_kept o) firsts ≡ firsts = ap (λ p. filter (is_kept o) p.firsts) laid ∙ firsts_kept o r ∙ sym (ap (λ p. p.firsts) laid) in
    let past : first_place test firsts ≡ None = ap (λ p. first_place test p.firsts) laid ∙ behind in
    rw (left, none, past) at (all_least test o r learned firsts singles members laid)

pub single_least : (test : Learnable → Bool) (o : Options) (r : Room) (learned firsts singles members : List Learnable) (first second : ℕ) → laid_out firsts singles members ≡ written r → first_place test learned ≡ None → first_place test (written r).firsts ≡ None →
    first ≡ length learned + length firsts → first_place test (filter (is_kept o) singles) ≡ Some second →
    first_code test (coded (behind_learned learned (left_of o (written r)))) ≡ Some (first ∷ second ∷ [])
single_least test o r learned firsts singles members first second laid none behind at found =
    let same : 0 + second ≡ second = omega arith in
    longer_least test o r learned firsts singles members laid none behind ∙ rw (← at, found) (ap (λ k. Some (first ∷ k ∷ [])) same)

pub member_least : (test : Learnable → Bool) (o : Options) (r : Room) (learned firsts singles members : List Learnable) (first second third : ℕ) → laid_out firsts singles members ≡ written r → first_place test learned ≡ None → first_place test (written r).firsts ≡ None →
    first ≡ length learned + length firsts → first_place test (filter (is_kept o) singles) ≡ None → second ≡ length (filter (is_kept o) singles) → first_place test (filter (is_kept o) members) ≡ Some third →
    first_code test (coded (behind_learned learned (left_of o (written r)))) ≡ Some (first ∷ second ∷ third ∷ [])
member_least test o r learned firsts singles members first second third laid none behind at no_single count found =
    let same : 0 + third ≡ third = omega arith in
    longer_least test o r learned firsts singles members laid none behind ∙ rw (← at, no_single, ← count, found) (ap (λ k. Some (first ∷ second ∷ k ∷ [])) same)

pub no_least : (test : Learnable → Bool) (o : Options) (r : Room) (learned firsts singles members : List Learnable) → laid_out firsts singles members ≡ written r → first_place test learned ≡ None → first_place test (written r).firsts ≡ None →
    first_place test (filter (is_kept o) singles) ≡ None → first_place test (filter (is_kept o) members) ≡ None →
    first_code test (coded (behind_learned learned (left_of o (written r)))) ≡ None
no_least test o r learned firsts singles members laid none behind no_single no_member =
    longer_least test o r learned firsts singles members laid none behind ∙ rw (no_single, no_member) refl
