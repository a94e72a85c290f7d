-- Texts at the first character of a kind.
use Rattle.std.proofs.Common.{◌≡◌, ℕ, ◌+◌, ◌-◌, eqb, ◌<◌, ◌≤◌, Bool, true, false, ◌&&◌, not, List, [], ◌∷◌, ◌++◌, length, get_or, take, drop, refl, sym, ap, ◌∙◌, Some, None}
use Rattle.std.proofs.lemmas.List.{append-nil, append_assoc, drop_more, drop_all, take_more, take_all, take_rest}
use Rattle.std.proofs.lemmas.Bool.{and_parts, and_from, not-true, eq-eqb, ne_eqb, or_left, or_right, or_from}
use Rattle.exi_digits.specs.Digits.{is_digit, all_digits}
use Rattle.exi_digits.specs.Splits.{before, behind, is_either, is_mark}

-- none of them passes
abbrev pub none_passes : (ℕ → Bool) → List ℕ → Bool
none_passes test [] = true
none_passes test (c ∷ cs) = not (test c) && none_passes test cs

pub before_mark : (test : ℕ → Bool) (a : List ℕ) (c : ℕ) (b : List ℕ) → none_passes test a ≡ true → test c ≡ true → before test (a ++ c ∷ b) ≡ a
before_mark test [] c b none yes_is = rw yes_is refl
before_mark test (x ∷ a) c b none yes_is =
    let p = and_parts (not (test x)) (none_passes test a) none in
    rw (not-true (test x) p.0) (ap (λ (t : List ℕ). x ∷ t) (before_mark test a c b p.1 yes_is))

pub behind_mark : (test : ℕ → Bool) (a : List ℕ) (c : ℕ) (b : List ℕ) → none_passes test a ≡ true → test c ≡ true → behind test (a ++ c ∷ b) ≡ Some b
behind_mark test [] c b none yes_is = rw yes_is refl
behind_mark test (x ∷ a) c b none yes_is =
    let p = and_parts (not (test x)) (none_passes test a) none in
    rw (not-true (test x) p.0) (behind_mark test a c b p.1 yes_is)

pub before_all : (test : ℕ → Bool) (a : List ℕ) → none_passes test a ≡ true → before test a ≡ a
before_all test [] none = refl
before_all test (x ∷ a) none =
    let p = and_parts (not (test x)) (none_passes test a) none in
    rw (not-true (test x) p.0) (ap (λ (t : List ℕ). x ∷ t) (before_all test a p.1))

pub behind_none : (test : ℕ → Bool) (a : List ℕ) → none_passes test a ≡ true → behind test a ≡ None
behind_none test [] none = refl
behind_none test (x ∷ a) none =
    let p = and_parts (not (test x)) (none_passes test a) none in
    rw (not-true (test x) p.0) (behind_none test a p.1)

pub none_passes-append : (test : ℕ → Bool) (a b : List ℕ) → none_passes test a ≡ true → none_passes test b ≡ true → none_passes test (a ++ b) ≡ true
none_passes-append test [] b p q = q
none_passes-append test (x ∷ a) b p q =
    let h = and_parts (not (test x)) (none_passes test a) p in
    and_from (not (test x)) (none_passes test (a ++ b)) h.0 (none_passes-append test a b h.1 q)

-- digits do not pass, where no digit does
pub digits_pass_none : (test : ℕ → Bool) (a : List ℕ) → ((c : ℕ) → is_digit c ≡ true → test c ≡ false) → all_digits a ≡ true → none_passes test a ≡ true
digits_pass_none test [] fails all = refl
digits_pass_none test (x ∷ a) fails all =
    let p = and_parts (is_digit x) (all_digits a) all in
    rw (fails x p.0) (digits_pass_none test a fails p.1)

-- ---- for the loops
-- the characters so far do not pass
pub record Passed (test : ℕ → Bool) (text : List ℕ) (i : ℕ) : Type 0 where
  pub front : before test text ≡ take i text ++ before test (drop i text)
  pub rest : behind test text ≡ behind test (drop i text)

pub passed_none : (test : ℕ → Bool) (text : List ℕ) → Passed test text 0
passed_none test text = record { front = refl; rest = refl }

pub passed_more : (test : ℕ → Bool) (text : List ℕ) (i : ℕ) → i < length text → test (get_or text i 0) ≡ false → Passed test text i → Passed test text (i + 1)
passed_more test text i lt no_is p =
    let d = drop_more text i 0 lt in
    let one : before test (drop i text) ≡ get_or text i 0 ∷ before test (drop (i + 1) text) = ap (before test) d ∙ rw no_is refl in
    let two : behind test (drop i text) ≡ behind test (drop (i + 1) text) = ap (behind test) d ∙ rw no_is refl in
    record {
      front = (p.front ∙ ap (λ (t : List ℕ). take i text ++ t) one ∙ sym (append_assoc (take i text) (get_or text i 0 ∷ []) (before test (drop (i + 1) text)))
          ∙ ap (λ (t : List ℕ). t ++ before test (drop (i + 1) text)) (sym (take_more text i 0 lt)));
      rest = p.rest ∙ two;
    }

pub passed_to : (test : ℕ → Bool) (text : List ℕ) (i : ℕ) → i < length text → test (get_or text i 0) ≡ true → Passed test text i → (take i text ≡ before test text) × (Some (drop (i + 1) text) ≡ behind test text)
passed_to test text i lt yes_is p =
    let d = drop_more text i 0 lt in
    let one : before test (drop i text) ≡ [] = ap (before test) d ∙ rw yes_is refl in
    let two : behind test (drop i text) ≡ Some (drop (i + 1) text) = ap (behind test) d ∙ rw yes_is refl in
    (sym (p.front ∙ ap (λ (t : List ℕ). take i text ++ t) one ∙ append-nil (take i text)), sym (p.rest ∙ two))

pub passed_all : (test : ℕ → Bool) (text : List ℕ) (i : ℕ) → length text ≤ i → Passed test text i → (text ≡ before test text) × (None ≡ behind test text)
passed_all test text i le p =
    let d = drop_all i text le in
    (sym (p.front ∙ ap (λ (t : List ℕ). take i text ++ before test t) d ∙ append-nil (take i text) ∙ take_all i text le), sym (p.rest ∙ ap (behind test) d))

pub mark_is : (m c : ℕ) → c ≡ m → is_mark m c ≡ true
mark_is m c e = eq-eqb c m e

pub no_mark : (m c : ℕ) → (c ≡ m → ⊥) → is_mark m c ≡ false
no_mark m c e = ne_eqb c m e

pub first_is : (m n c : ℕ) → c ≡ m → is_either m n c ≡ true
first_is m n c e = or_left (eqb c m) (eqb c n) (eq-eqb c m e)

pub second_is : (m n c : ℕ) → c ≡ n → is_either m n c ≡ true
second_is m n c e = or_right (eqb c m) (eqb c n) (eq-eqb c n e)

pub neither : (m n c : ℕ) → (c ≡ m → ⊥) → (c ≡ n → ⊥) → is_either m n c ≡ false
neither m n c e f = or_from (eqb c m) (eqb c n) (ne_eqb c m e) (ne_eqb c n f)

pub all_behind : (text : List ℕ) (i : ℕ) → take (length text - i) (drop i text) ≡ drop i text
all_behind text i = take_rest text i
