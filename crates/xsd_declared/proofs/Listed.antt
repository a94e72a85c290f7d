-- What the elements of a kind declare, one element after another.
use Rattle.std.proofs.Common.{◌≡◌, ℕ, ◌+◌, Bool, true, false, cond, List, [], ◌∷◌, ◌++◌, filter, length, map, refl, sym, ap, ◌∙◌}
use Rattle.std.proofs.lemmas.List.{map-append}
use Rattle.std.proofs.lemmas.List.Elements.{filter-append}
use Rattle.xsd_document.proofs.Below.{below, below_more, below_zero, places_are}
use Rattle.xsd_tree.specs.declared.node.Node.{Node}
use Rattle.xsd_nodes.specs.Nodes.{places}
use Rattle.xsd_declared.specs.Lists.{one_of}

-- of those before a place
abbrev pub listed : {X : Type 0} → (ℕ → X) → (ℕ → Bool) → ℕ → List X
listed f test n = map f (filter test (below n))

pub listed_none : {X : Type 0} (f : ℕ → X) (test : ℕ → Bool) → [] ≡ listed f test 0
listed_none f test = ap (λ (l : List ℕ). map f (filter test l)) (sym below_zero)

pub listed_step : {X : Type 0} (f : ℕ → X) (test : ℕ → Bool) (n : ℕ) → listed f test (n + 1) ≡ listed f test n ++ map f (filter test (n ∷ []))
listed_step f test n =
    ap (λ (l : List ℕ). map f (filter test l)) (below_more n)
    ∙ ap (map f) (filter-append test (below n) (n ∷ []))
    ∙ map-append f (filter test (below n)) (filter test (n ∷ []))

pub one_listed : {X : Type 0} (f : ℕ → X) (b : Bool) (n : ℕ) → one_of b (f n) ≡ map f (cond b (n ∷ []) [])
one_listed f true n = refl
one_listed f false n = refl

pub listed_next : {X : Type 0} (f : ℕ → X) (test : ℕ → Bool) (n : ℕ) (found new : List X) → found ≡ listed f test n → new ≡ found ++ one_of (test n) (f n) → new ≡ listed f test (n + 1)
listed_next f test n found new q new_is =
    new_is
    ∙ ap (λ l. l ++ one_of (test n) (f n)) q
    ∙ ap (λ l. listed f test n ++ l) (one_listed f (test n) n)
    ∙ sym (listed_step f test n)

pub listed_all : {X : Type 0} (f : ℕ → X) (test : ℕ → Bool) (ns : List Node) (n : ℕ) (found : List X) → n ≡ length ns → found ≡ listed f test n → found ≡ map f (filter test (places ns))
listed_all f test ns n found e q =
    q ∙ ap (λ (k : ℕ). listed f test k) e ∙ ap (λ (l : List ℕ). map f (filter test l)) (sym (places_are ns))
