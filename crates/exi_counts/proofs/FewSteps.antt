-- Where paths among so many places end, they end within so many steps.
use Rattle.std.proofs.Common.{◌≡◌, ℕ, zero, suc, ◌+◌, ◌<◌, ◌≤◌, ◌⊎◌, Bool, true, false, cond, inl, inr, List, [], ◌∷◌, refl, sym, ap, ◌∙◌, arith}
use Rattle.std.specs.List.{list_all}
use Rattle.std.proofs.lemmas.Bool.{and_from, and_parts, cases_eq, false≢true}
use Rattle.xsd_model.specs.Parts.{all_end}

-- ---- tests that all pass
pub all_from : (f g : ℕ → Bool) (xs : List ℕ) → ((x : ℕ) → f x ≡ true → g x ≡ true) → list_all f xs ≡ true → list_all g xs ≡ true
all_from f g [] h all = refl
all_from f g (x ∷ xs) h all =
    let both = and_parts (f x) (list_all f xs) all in
    and_from (g x) (list_all g xs) (h x both.0) (all_from f g xs h both.1)

-- where another test passes as well
pub all_from_both : (e f g : ℕ → Bool) (xs : List ℕ) → ((x : ℕ) → e x ≡ true → f x ≡ true → g x ≡ true) → list_all e xs ≡ true → list_all f xs ≡ true → list_all g xs ≡ true
all_from_both e f g [] h also all = refl
all_from_both e f g (x ∷ xs) h also all =
    let one = and_parts (e x) (list_all e xs) also in
    let both = and_parts (f x) (list_all f xs) all in
    and_from (g x) (list_all g xs) (h x one.0 both.0) (all_from_both e f g xs h one.1 both.1)

-- ---- a path that ends within so many steps ends within more
pub ends_more : (next : ℕ → List ℕ) (n m x : ℕ) → n ≤ m → all_end next n x ≡ true → all_end next m x ≡ true
ends_more next zero m x le e = absurd (false≢true e)
ends_more next (suc n) zero x le e = absurd (omega (arith, le))
ends_more next (suc n) (suc m) x le e = all_from (all_end next n) (all_end next m) (next x) (λ y f. ends_more next n m y (omega (arith, le)) f) e

-- ---- how many pass
abbrev passing : (ℕ → Bool) → ℕ → ℕ
passing f zero = 0
passing f (suc n) = cond (f n) 1 0 + passing f n

not_more : (f g : ℕ → Bool) (n : ℕ) → ((x : ℕ) → f x ≡ true → g x ≡ true) → passing f n ≤ passing g n
not_more f g zero h = omega arith
not_more f g (suc n) h = by (f n) (g n) (h n) (not_more f g n h)
  where
    by : (a b : Bool) → (a ≡ true → b ≡ true) → passing f n ≤ passing g n → cond a 1 0 + passing f n ≤ cond b 1 0 + passing g n
    by true true h le = omega (arith, le)
    by true false h le = absurd (false≢true (h refl))
    by false true h le = omega (arith, le)
    by false false h le = omega (arith, le)

-- more pass, or all that pass the one pass the other
abbrev Covers : (ℕ → Bool) → (ℕ → Bool) → ℕ → Type 0
Covers f g n = (x : ℕ) → x < n → g x ≡ true → f x ≡ true

grows : (f g : ℕ → Bool) (n : ℕ) → ((x : ℕ) → f x ≡ true → g x ≡ true) → Covers f g n ⊎ (passing f n < passing g n)
grows f g zero h = inl (λ x less e. absurd (omega (arith, less)))
grows f g (suc n) h = by (f n) (g n) refl refl (h n) (not_more f g n h) (grows f g n h)
  where
    one_more : (a : Bool) → f n ≡ a → (g n ≡ true → a ≡ true) → Covers f g n → Covers f g (suc n)
    one_more a at last below x less e = elim (cases_eq x n) [
      | inl same ↦ ap f same ∙ at ∙ last (ap g (sym same) ∙ e)
      | inr differ ↦ below x (omega (arith, less, differ)) e
    ]

    by : (a b : Bool) → f n ≡ a → g n ≡ b → (a ≡ true → b ≡ true) → passing f n ≤ passing g n → Covers f g n ⊎ (passing f n < passing g n) → Covers f g (suc n) ⊎ (cond a 1 0 + passing f n < cond b 1 0 + passing g n)
    by true b fa gb h le (inl below) = inl (one_more true fa (λ e. refl) below)
    by true true fa gb h le (inr less) = inr (omega (arith, less))
    by true false fa gb h le (inr less) = absurd (false≢true (h refl))
    by false true fa gb h le rest = inr (omega (arith, le))
    by false false fa gb h le (inl below) = inl (one_more false fa (λ e. absurd (false≢true (sym gb ∙ e))) below)
    by false false fa gb h le (inr less) = inr (omega (arith, less))

at_most : (f : ℕ → Bool) (n : ℕ) → passing f n ≤ n
at_most f zero = omega arith
at_most f (suc n) = by (f n) (at_most f n)
  where
    by : (a : Bool) → passing f n ≤ n → cond a 1 0 + passing f n ≤ suc n
    by true le = omega (arith, le)
    by false le = omega (arith, le)

all_pass_by : (f : ℕ → Bool) (n x : ℕ) (a : Bool) → f n ≡ a → x < suc n → suc n ≤ cond a 1 0 + passing f n → passing f n ≤ n → (n ≤ passing f n → x < n → f x ≡ true) → f x ≡ true
all_pass_by f n x true e less many few before = elim (cases_eq x n) [
  | inl same ↦ ap f same ∙ e
  | inr differ ↦ before (omega (arith, many)) (omega (arith, less, differ))
]
all_pass_by f n x false e less many few before = absurd (omega (arith, many, few))

all_pass : (f : ℕ → Bool) (n : ℕ) → n ≤ passing f n → (x : ℕ) → x < n → f x ≡ true
all_pass f zero many x less = absurd (omega (arith, less))
all_pass f (suc n) many x less = all_pass_by f n x (f n) refl less many (at_most f n) (λ m l. all_pass f n m x l)

-- ---- places that lead to each other alone
module _ (next : ℕ → List ℕ) (inside : ℕ → Bool) (most : ℕ) (below : (x : ℕ) → inside x ≡ true → x < most) (closed : (x : ℕ) → inside x ≡ true → list_all inside (next x) ≡ true) (whole : (x : ℕ) → x < most → inside x ≡ true) where
  -- where no more end within one step more, none does within any number
  settles : (k : ℕ) → Covers (all_end next k) (all_end next (suc k)) most → (m x : ℕ) → inside x ≡ true → all_end next m x ≡ true → all_end next k x ≡ true
  settles k settled zero x here e = absurd (false≢true e)
  settles k settled (suc m) x here e =
      settled x (below x here) (all_from_both inside (all_end next m) (all_end next k) (next x) (λ y in_y f. settles k settled m y in_y f) (closed x here) e)

  abbrev Settled : ℕ → Type 0
  Settled k = (j : ℕ) × (j ≤ k) × Covers (all_end next j) (all_end next (suc j)) most

  settled_or : (k : ℕ) → Settled k ⊎ (k ≤ passing (all_end next k) most)
  settled_or zero = inr (omega arith)
  settled_or (suc k) = by (settled_or k)
    where
      by : Settled k ⊎ (k ≤ passing (all_end next k) most) → Settled (suc k) ⊎ (suc k ≤ passing (all_end next (suc k)) most)
      by (inl s) = inl (s.0, omega (arith, s.1), s.2)
      by (inr many) = elim (grows (all_end next k) (all_end next (suc k)) most (λ x e. ends_more next k (suc k) x (omega arith) e)) [
        | inl covers ↦ inl (k, omega arith, covers)
        | inr less ↦ inr (omega (arith, many, less))
      ]

  pub few_steps : (m x : ℕ) → inside x ≡ true → all_end next m x ≡ true → all_end next most x ≡ true
  few_steps m x here e = elim (settled_or most) [
    | inl s ↦ ends_more next s.0 most x s.1 (settles s.0 s.2 m x here e)
    | inr many ↦ all_pass (all_end next most) most many x (below x here)
  ]
