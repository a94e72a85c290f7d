-- Texts beside their numbers, one more at the end.
use Rattle.std.proofs.Common.{◌≡◌, ℕ, Bool, true, false, cond, List, [], ◌∷◌, ◌++◌, Option, Some, None, refl, sym, ap, ◌∙◌, inl, inr}
use Rattle.std.specs.Prelude.{unwrap_or}
use Rattle.std.specs.Str.{bytes_eq}
use Rattle.std.proofs.lemmas.Bool.{cases_Bool, both_ways}
use Rattle.std.proofs.lemmas.List.{map-append}
use Rattle.std.proofs.lemmas.Slice.Eq.{bytes_eq-Decides}
use Rattle.exi_tables.specs.declared.list_texts.Numbered.{Numbered}
use Rattle.exi_tables.specs.Added.{Puts, number_of}
use Rattle.exi_tables.specs.Kept.{pairs_of}

none_some : (x : ℕ) → Some x ≡ None → ⊥
none_some x e = absurd (cc)

found_stays : (pairs : List (List ℕ × ℕ)) (text t : List ℕ) (n m : ℕ) → number_of pairs t ≡ Some m → number_of (pairs ++ (text, n) ∷ []) t ≡ Some m
found_stays [] text t n m e = absurd (none_some m (sym e))
found_stays (p ∷ ps) text t n m e = elim (cases_Bool (bytes_eq t p.0)) [
  | inl yes_is ↦ rw yes_is (rw yes_is at e)
  | inr no_is ↦ rw no_is (found_stays ps text t n m (rw no_is at e))
]

none_last : (pairs : List (List ℕ × ℕ)) (text t : List ℕ) (n : ℕ) → number_of pairs t ≡ None → number_of (pairs ++ (text, n) ∷ []) t ≡ cond (bytes_eq t text) (Some n) None
none_last [] text t n e = refl
none_last (p ∷ ps) text t n e = elim (cases_Bool (bytes_eq t p.0)) [
  | inl yes_is ↦ absurd (none_some p.1 (rw yes_is at e))
  | inr no_is ↦ rw no_is (none_last ps text t n (rw no_is at e))
]

pub list_puts : (pairs : List (List ℕ × ℕ)) (text : List ℕ) (number n : ℕ) → n ≡ unwrap_or (number_of pairs text) number → Puts pairs text number (pairs ++ (text, n) ∷ [])
list_puts pairs text number n n_is t = elim (cases_Bool (bytes_eq text t)) [
  | inl yes_is ↦ rw yes_is (same ((bytes_eq-Decides text t).0 yes_is) (number_of pairs t) refl)
  | inr no_is ↦ rw no_is (other no_is (number_of pairs t) refl)
]
  where
    same : text ≡ t → (o : Option ℕ) → number_of pairs t ≡ o → number_of (pairs ++ (text, n) ∷ []) t ≡ Some (unwrap_or o number)
    same is (Some m) e = found_stays pairs text t n m e
    same is None e =
        let here : bytes_eq t text ≡ true = (bytes_eq-Decides t text).1 (sym is) in
        let number_is : n ≡ number = n_is ∙ ap (λ u. unwrap_or (number_of pairs u) number) is ∙ ap (λ o. unwrap_or o number) e in
        none_last pairs text t n e ∙ ap (λ b. cond b (Some n) None) here ∙ ap (λ (i : ℕ). Some i) number_is

    other : bytes_eq text t ≡ false → (o : Option ℕ) → number_of pairs t ≡ o → number_of (pairs ++ (text, n) ∷ []) t ≡ o
    other no_is (Some m) e = found_stays pairs text t n m e
    other no_is None e = none_last pairs text t n e ∙ apart (bytes_eq t text) refl
      where
        apart : (b : Bool) → bytes_eq t text ≡ b → cond b (Some n) None ≡ None
        apart false is = refl
        apart true is = absurd (both_ways (bytes_eq text t) no_is ((bytes_eq-Decides text t).1 (sym ((bytes_eq-Decides t text).0 is))))

pub item_puts : (items : List Numbered) (item : Numbered) (number : ℕ) → item.number ≡ unwrap_or (number_of (pairs_of items) item.text) number →
    Puts (pairs_of items) item.text number (pairs_of (items ++ item ∷ []))
item_puts items item number n_is t =
    ap (λ ps. number_of ps t) (map-append (λ (i : Numbered). (i.text, i.number)) items (item ∷ [])) ∙ list_puts (pairs_of items) item.text number item.number n_is t
