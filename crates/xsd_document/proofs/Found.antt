-- What passes of the items of a list from a place on, and of those before it.
use Rattle.std.proofs.Common.{◌≡◌, ℕ, ◌+◌, ◌<◌, ◌≤◌, Bool, true, false, cond, ◌&&◌, Option, Some, None, List, [], ◌∷◌, ◌++◌, drop, filter, get_or, length, take, refl, sym, ap, ◌∙◌}
use Rattle.std.proofs.lemmas.List.{append-nil, drop_all, drop_more, take_all, take_more}
use Rattle.std.proofs.lemmas.List.Elements.{filter-append}
use Rattle.xsd_tree.specs.declared.node.Node.{Node}
use Rattle.xsd_nodes.specs.Nodes.{children, first, is_among_at, places}
use Rattle.xsd_nodes.specs.declared.part.Part.{Part}
use Rattle.xsd_document.specs.Held.{held, holds}

-- of those that pass two tests
pub passes_both : (q : ℕ → Bool) (x : ℕ) (b : Bool) (both front : List ℕ) → both ≡ filter q front → cond (b && q x) (x ∷ both) both ≡ filter q (cond b (x ∷ front) front)
passes_both q x true both front e = ap (λ (t : List ℕ). cond (q x) (x ∷ t) t) e
passes_both q x false both front e = e

pub filter_both : (p q : ℕ → Bool) (xs : List ℕ) → filter (λ x. p x && q x) xs ≡ filter q (filter p xs)
filter_both p q [] = refl
filter_both p q (x ∷ xs) = passes_both q x (p x) (filter (λ y. p y && q y) xs) (filter p xs) (filter_both p q xs)

pub children_are : (ns : List Node) (ps : List Part) (i : ℕ) → filter (is_among_at ns ps) (held ns i) ≡ children ns ps i
children_are ns ps i = sym (filter_both (holds ns i) (is_among_at ns ps) (places ns))

-- ---- the first
pub first_found : (d : ℕ) (test : ℕ → Bool) (xs : List ℕ) (i : ℕ) (r : Bool) (all : Option ℕ) → i < length xs → r ≡ true → r ≡ test (get_or xs i d) → first (filter test (drop i xs)) ≡ all → Some (get_or xs i d) ≡ all
first_found d test xs i r all less yes_is e q =
    ap (λ b. first (cond b (get_or xs i d ∷ filter test (drop (i + 1) xs)) (filter test (drop (i + 1) xs)))) (sym yes_is ∙ e)
    ∙ ap (λ (l : List ℕ). first (filter test l)) (sym (drop_more xs i d less))
    ∙ q

pub first_passed : (d : ℕ) (test : ℕ → Bool) (xs : List ℕ) (i : ℕ) (r : Bool) (all : Option ℕ) → i < length xs → r ≡ false → r ≡ test (get_or xs i d) → first (filter test (drop i xs)) ≡ all → first (filter test (drop (i + 1) xs)) ≡ all
first_passed d test xs i r all less no_is e q =
    ap (λ b. first (cond b (get_or xs i d ∷ filter test (drop (i + 1) xs)) (filter test (drop (i + 1) xs)))) (sym no_is ∙ e)
    ∙ ap (λ (l : List ℕ). first (filter test l)) (sym (drop_more xs i d less))
    ∙ q

pub first_ended : (test : ℕ → Bool) (xs : List ℕ) (i : ℕ) (all : Option ℕ) → length xs ≤ i → first (filter test (drop i xs)) ≡ all → None ≡ all
first_ended test xs i all le q = ap (λ (l : List ℕ). first (filter test l)) (sym (drop_all i xs le)) ∙ q

-- ---- all
pub kept_more : (d : ℕ) (test : ℕ → Bool) (xs kept new : List ℕ) (i : ℕ) (r : Bool) → i < length xs → r ≡ true → r ≡ test (get_or xs i d) → kept ≡ filter test (take i xs) → new ≡ kept ++ get_or xs i d ∷ [] → new ≡ filter test (take (i + 1) xs)
kept_more d test xs kept new i r less yes_is e q new_is =
    new_is
    ∙ ap (λ (l : List ℕ). l ++ get_or xs i d ∷ []) q
    ∙ ap (λ b. filter test (take i xs) ++ cond b (get_or xs i d ∷ []) []) (sym yes_is ∙ e)
    ∙ sym (filter-append test (take i xs) (get_or xs i d ∷ []))
    ∙ ap (filter test) (sym (take_more xs i d less))

pub kept_same : (d : ℕ) (test : ℕ → Bool) (xs kept : List ℕ) (i : ℕ) (r : Bool) → i < length xs → r ≡ false → r ≡ test (get_or xs i d) → kept ≡ filter test (take i xs) → kept ≡ filter test (take (i + 1) xs)
kept_same d test xs kept i r less no_is e q =
    q
    ∙ sym (append-nil (filter test (take i xs)))
    ∙ ap (λ b. filter test (take i xs) ++ cond b (get_or xs i d ∷ []) []) (sym no_is ∙ e)
    ∙ sym (filter-append test (take i xs) (get_or xs i d ∷ []))
    ∙ ap (filter test) (sym (take_more xs i d less))

pub kept_all : (test : ℕ → Bool) (xs kept : List ℕ) (i : ℕ) → length xs ≤ i → kept ≡ filter test (take i xs) → kept ≡ filter test xs
kept_all test xs kept i le q = q ∙ ap (filter test) (take_all i xs le)
