-- What the elements of a kind declare, behind what stands before them all.
use Rattle.std.proofs.Common.{◌≡◌, ℕ, ◌+◌, Bool, List, ◌++◌, filter, length, map, refl, sym, ap, ◌∙◌}
use Rattle.std.proofs.lemmas.List.{append-nil, append_assoc}
use Rattle.xsd_tree.specs.declared.node.Node.{Node}
use Rattle.xsd_nodes.specs.Nodes.{places}
use Rattle.xsd_declared.specs.Lists.{one_of}
use Rattle.xsd_declared.proofs.Listed.{listed, listed_all, listed_next, listed_none}

pub behind_none : {X : Type 0} (f : ℕ → X) (test : ℕ → Bool) (front found : List X) → found ≡ front → found ≡ front ++ listed f test 0
behind_none f test front found e = e ∙ sym (append-nil front) ∙ ap (λ l. front ++ l) (listed_none f test)

pub behind_next : {X : Type 0} (f : ℕ → X) (test : ℕ → Bool) (n : ℕ) (front found new : List X) → found ≡ front ++ listed f test n → new ≡ found ++ one_of (test n) (f n) → new ≡ front ++ listed f test (n + 1)
behind_next f test n front found new q new_is =
    new_is
    ∙ ap (λ l. l ++ one_of (test n) (f n)) q
    ∙ append_assoc front (listed f test n) (one_of (test n) (f n))
    ∙ ap (λ l. front ++ l) (listed_next f test n (listed f test n) (listed f test n ++ one_of (test n) (f n)) refl refl)

pub behind_all : {X : Type 0} (f : ℕ → X) (test : ℕ → Bool) (ns : List Node) (n : ℕ) (front found : List X) → n ≡ length ns → found ≡ front ++ listed f test n → found ≡ front ++ map f (filter test (places ns))
behind_all f test ns n front found e q = q ∙ ap (λ l. front ++ l) (listed_all f test ns n (listed f test n) e refl)
