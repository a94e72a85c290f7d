-- What the innermost element declares for a prefix, of one and those that hold it.
use Rattle.std.proofs.Common.{◌≡◌, ℕ, ◌+◌, ◌-◌, ◌<◌, ◌≤◌, Option, Some, None, List, sym, ap, ◌∙◌}
use Rattle.std.specs.Prelude.{slice_get}
use Rattle.xsd_tree.specs.declared.node.Node.{Node}
use Rattle.xsd_nodes.specs.Nodes.{outwards_from, parent_at}
use Rattle.xsd_nodes.proofs.Upwards.{all_done, no_more, up}
use Rattle.xsd_names.specs.Names.{scope_in, unless_told, uri_along}

pub uri_here : (prefix : List ℕ) (ns : List Node) (n k i : ℕ) (uri : List ℕ) (all : Option (List ℕ)) → k < n → Some uri ≡ scope_in prefix (slice_get ns i) → uri_along prefix ns (outwards_from (n - k) ns (Some i)) ≡ all → Some uri ≡ all
uri_here prefix ns n k i uri all less e q =
    ap (λ u. unless_told u (uri_along prefix ns (outwards_from (n - (k + 1)) ns (parent_at ns i)))) e
    ∙ ap (uri_along prefix ns) (sym (up ns n k i less))
    ∙ q

pub uri_further : (prefix : List ℕ) (ns : List Node) (n k i : ℕ) (all : Option (List ℕ)) → k < n → None ≡ scope_in prefix (slice_get ns i) → uri_along prefix ns (outwards_from (n - k) ns (Some i)) ≡ all → uri_along prefix ns (outwards_from (n - (k + 1)) ns (parent_at ns i)) ≡ all
uri_further prefix ns n k i all less e q =
    ap (λ u. unless_told u (uri_along prefix ns (outwards_from (n - (k + 1)) ns (parent_at ns i)))) e
    ∙ ap (uri_along prefix ns) (sym (up ns n k i less))
    ∙ q

pub uri_last : (prefix : List ℕ) (ns : List Node) (n : ℕ) (all : Option (List ℕ)) → uri_along prefix ns (outwards_from n ns None) ≡ all → None ≡ all
uri_last prefix ns n all q = ap (uri_along prefix ns) (sym (no_more ns n)) ∙ q

pub uri_ended : (prefix : List ℕ) (ns : List Node) (n k : ℕ) (around : Option ℕ) (all : Option (List ℕ)) → n ≤ k → uri_along prefix ns (outwards_from (n - k) ns around) ≡ all → None ≡ all
uri_ended prefix ns n k around all le q = ap (uri_along prefix ns) (sym (all_done ns n k around le)) ∙ q
