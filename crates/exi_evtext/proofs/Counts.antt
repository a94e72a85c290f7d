-- How many values a list has, and what stands in front of them.
use Rattle.std.proofs.Common.{◌≡◌, ℕ, suc, List, [], ◌∷◌, ◌++◌, length, refl, ap, ◌∙◌, append_assoc}
use Rattle.std.specs.Prelude.{codes, decimal}
use Rattle.exi_names.specs.Seen.{Value, values_of}
use Rattle.exi_evtext.specs.Lines.{count}

pub count_is : (vs : List Value) → count (values_of vs) ≡ length vs
count_is [] = refl
count_is (v ∷ vs) = ap suc (count_is vs)

pub list_start : (old mid new rest : List ℕ) (n m : ℕ) → mid ≡ old ++ codes "list " → new ≡ mid ++ decimal n → n ≡ m → new ++ rest ≡ old ++ (codes "list " ++ decimal m ++ rest)
list_start old mid new rest n m one two same =
    ap (λ (x : List ℕ). x ++ rest) (two ∙ ap (λ (x : List ℕ). x ++ decimal n) one ∙ ap (λ (k : ℕ). (old ++ codes "list ") ++ decimal k) same)
    ∙ append_assoc (old ++ codes "list ") (decimal m) rest
    ∙ append_assoc old (codes "list ") (decimal m ++ rest)
