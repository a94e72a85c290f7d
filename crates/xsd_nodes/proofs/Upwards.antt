-- From an element to those that hold it.
use Rattle.std.proofs.Common.{◌≡◌, ℕ, zero, suc, ◌+◌, ◌-◌, ◌<◌, ◌≤◌, length, Bool, true, false, ◌||◌, Option, Some, None, List, [], ◌∷◌, refl, sym, ap, ◌∙◌, arith}
use Rattle.std.specs.List.{list_any}
use Rattle.xsd_tree.specs.declared.node.Node.{Node}
use Rattle.xsd_nodes.specs.Nodes.{last_of, outwards_from, parent_at}

-- one step of so many
pub up : (ns : List Node) (n k i : ℕ) → k < n → outwards_from (n - k) ns (Some i) ≡ i ∷ outwards_from (n - (k + 1)) ns (parent_at ns i)
up ns n k i less = let e : n - k ≡ suc (n - (k + 1)) = omega arith in rw e refl

pub no_more : (ns : List Node) (n : ℕ) → outwards_from n ns None ≡ []
no_more ns zero = refl
no_more ns (suc n) = refl

pub all_done : (ns : List Node) (n k : ℕ) (around : Option ℕ) → n ≤ k → outwards_from (n - k) ns around ≡ []
all_done ns n k around le = let e : n - k ≡ 0 = omega arith in rw e refl

pub up_found : (test : ℕ → Bool) (ns : List Node) (n k i : ℕ) (r all : Bool) → k < n → r ≡ true → r ≡ test i → list_any test (outwards_from (n - k) ns (Some i)) ≡ all → true ≡ all
up_found test ns n k i r all less yes_is e q = ap (λ b. b || list_any test (outwards_from (n - (k + 1)) ns (parent_at ns i))) (sym yes_is ∙ e) ∙ ap (list_any test) (sym (up ns n k i less)) ∙ q

pub up_passed : (test : ℕ → Bool) (ns : List Node) (n k i : ℕ) (r all : Bool) → k < n → r ≡ false → r ≡ test i → list_any test (outwards_from (n - k) ns (Some i)) ≡ all → list_any test (outwards_from (n - (k + 1)) ns (parent_at ns i)) ≡ all
up_passed test ns n k i r all less no_is e q = ap (λ b. b || list_any test (outwards_from (n - (k + 1)) ns (parent_at ns i))) (sym no_is ∙ e) ∙ ap (list_any test) (sym (up ns n k i less)) ∙ q

pub up_last : (test : ℕ → Bool) (ns : List Node) (n : ℕ) (all : Bool) → list_any test (outwards_from n ns None) ≡ all → false ≡ all
up_last test ns n all q = ap (list_any test) (sym (no_more ns n)) ∙ q

pub up_ended : (test : ℕ → Bool) (ns : List Node) (n k : ℕ) (around : Option ℕ) (all : Bool) → n ≤ k → list_any test (outwards_from (n - k) ns around) ≡ all → false ≡ all
up_ended test ns n k around all le q = ap (list_any test) (sym (all_done ns n k around le)) ∙ q

pub root_more : (ns : List Node) (n k i last all : ℕ) → k < n → last_of last (outwards_from (n - k) ns (Some i)) ≡ all → last_of i (outwards_from (n - (k + 1)) ns (parent_at ns i)) ≡ all
root_more ns n k i last all less q = ap (last_of last) (sym (up ns n k i less)) ∙ q

pub root_last : (ns : List Node) (n last all : ℕ) → last_of last (outwards_from n ns None) ≡ all → last ≡ all
root_last ns n last all q = ap (last_of last) (sym (no_more ns n)) ∙ q

pub root_ended : (ns : List Node) (n k last all : ℕ) (around : Option ℕ) → n ≤ k → last_of last (outwards_from (n - k) ns around) ≡ all → last ≡ all
root_ended ns n k last all around le q = ap (last_of last) (sym (all_done ns n k around le)) ∙ q
