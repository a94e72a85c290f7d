-- The values of several texts, one after another.
use Rattle.std.proofs.Common.{◌≡◌, ℕ, ◌+◌, ◌<◌, ◌≤◌, true, false, List, [], ◌∷◌, ◌++◌, length, drop, get_or, Option, Some, None, option_map, refl, sym, ap, ◌∙◌, inl, inr, nat_le, arith}
use Rattle.std.proofs.lemmas.List.{append-nil, append_assoc, drop_more}
use Rattle.exi_names.specs.Seen.{Value, items, values_of}
use Rattle.exi_lexical.specs.Values.{each_value, list_value, value_before}
use Rattle.exi_lexical.specs.Spaces.{words}
use Rattle.std.proofs.lemmas.Bool.{cases_Bool}
use Rattle.std.proofs.lemmas.Bool.Decides.{nat_tests}

-- values behind others
abbrev pub behind : List Value → Option (List Value) → Option (List Value)
behind done rest = option_map (λ vs. done ++ vs) rest

behind_one : (done : List Value) (v : Value) (o : Option (List Value)) → behind done (value_before (Some v) o) ≡ behind (done ++ v ∷ []) o
behind_one done v None = refl
behind_one done v (Some vs) = ap (λ (ws : List Value). Some ws) (sym (append_assoc done (v ∷ []) vs))

pub each_next : (f : List ℕ → Option Value) (done new : List Value) (w : List ℕ) (ws : List (List ℕ)) (v : Value) (all : Option (List Value))
    → all ≡ behind done (each_value f (w ∷ ws)) → f w ≡ Some v → new ≡ done ++ v ∷ [] → all ≡ behind new (each_value f ws)
each_next f done new w ws v all e one parts =
    e ∙ ap (λ (o : Option Value). behind done (value_before o (each_value f ws))) one ∙ behind_one done v (each_value f ws) ∙ ap (λ (d : List Value). behind d (each_value f ws)) (sym parts)

pub each_none : (f : List ℕ → Option Value) (done : List Value) (w : List ℕ) (ws : List (List ℕ)) (all : Option (List Value))
    → all ≡ behind done (each_value f (w ∷ ws)) → f w ≡ None → all ≡ None
each_none f done w ws all e one = e ∙ ap (λ (o : Option Value). behind done (value_before o (each_value f ws))) one

pub each_end : (f : List ℕ → Option Value) (done : List Value) (ws : List (List ℕ)) (all : Option (List Value))
    → all ≡ behind done (each_value f ws) → ws ≡ [] → all ≡ Some done
each_end f done ws all e none = e ∙ ap (λ (us : List (List ℕ)). behind done (each_value f us)) none ∙ ap (λ (ds : List Value). Some ds) (append-nil done)

pub too_many : (f : List ℕ → Option Value) (t : List ℕ) → 65_536 < length (words t) → list_value f t ≡ None
unfolding list_value
too_many f t h = let e : nat_le (length (words t)) 65_536 ≡ false = grind (arith, nat_tests) in rw e refl

pub none_listed : (f : List ℕ → Option Value) (t : List ℕ) → each_value f (words t) ≡ None → list_value f t ≡ None
unfolding list_value
none_listed f t h = elim (cases_Bool (nat_le (length (words t)) 65_536)) [
  | inl few ↦ rw (few, h) refl
  | inr many ↦ rw many refl
]

pub listed : (f : List ℕ → Option Value) (t : List ℕ) (vs : List Value) → each_value f (words t) ≡ Some vs → length (words t) ≤ 65_536 → list_value f t ≡ Some (items (values_of vs))
unfolding list_value
listed f t vs h few = let e : nat_le (length (words t)) 65_536 ≡ true = grind (arith, nat_tests) in rw (e, h) refl

-- the item that a loop reads
pub at_item : {X : Type 0} (xs ys : List X) (i : ℕ) (x : X) → ys ≡ xs → i < length ys → x ≡ get_or ys i x → drop i xs ≡ x ∷ drop (i + 1) xs
at_item {X} xs ys i x e lt is =
    ap (λ (zs : List X). drop i zs) (sym e) ∙ drop_more ys i x lt ∙ ap (λ (z : X). z ∷ drop (i + 1) ys) (sym is) ∙ ap (λ (zs : List X). x ∷ drop (i + 1) zs) e
