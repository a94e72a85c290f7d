-- Look-ups in a list, from a place on: the first entry that passes a test gives the answer.
use Rattle.std.proofs.Common.{◌≡◌, ℕ, ◌+◌, ◌<◌, ◌≤◌, length, get_or, Bool, true, false, cond, List, [], ◌∷◌, drop, sym, ap, ◌∙◌}
use Rattle.std.proofs.lemmas.List.{drop_all, drop_more}
use Rattle.exi_names.specs.declared.datatype.Datatype.{Datatype}
use Rattle.exi_names.specs.declared.names.QName.{QName}

-- a global attribute
abbrev pub Declared : Type 0
Declared = QName × Datatype

module _ {X A : Type 0} (find : List X → A) (test : X → Bool) (answer : X → A) (none : A) (at_none : find [] ≡ none) (at_more : (x : X) (xs : List X) → find (x ∷ xs) ≡ cond (test x) (answer x) (find xs)) where
  found_here : (d : X) (xs : List X) (i : ℕ) → i < length xs → find (drop i xs) ≡ cond (test (get_or xs i d)) (answer (get_or xs i d)) (find (drop (i + 1) xs))
  found_here d xs i less = ap find (drop_more xs i d less) ∙ at_more (get_or xs i d) (drop (i + 1) xs)

  pub look_up_found : (d : X) (xs : List X) (i : ℕ) (all : A) → i < length xs → test (get_or xs i d) ≡ true → find (drop i xs) ≡ all → answer (get_or xs i d) ≡ all
  look_up_found d xs i all less yes_is q = sym (ap (λ (b : Bool). cond b (answer (get_or xs i d)) (find (drop (i + 1) xs))) yes_is) ∙ (sym (found_here d xs i less) ∙ q)

  pub look_up_passed : (d : X) (xs : List X) (i : ℕ) (all : A) → i < length xs → test (get_or xs i d) ≡ false → find (drop i xs) ≡ all → find (drop (i + 1) xs) ≡ all
  look_up_passed d xs i all less no_is q = sym (ap (λ (b : Bool). cond b (answer (get_or xs i d)) (find (drop (i + 1) xs))) no_is) ∙ (sym (found_here d xs i less) ∙ q)

  pub look_up_ended : (xs : List X) (i : ℕ) (all : A) → length xs ≤ i → find (drop i xs) ≡ all → none ≡ all
  look_up_ended xs i all le q = sym at_none ∙ (ap find (sym (drop_all i xs le)) ∙ q)
