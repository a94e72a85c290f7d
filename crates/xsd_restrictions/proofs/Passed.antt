-- What is left of the facets of a step when so many are passed.
use Rattle.std.proofs.Common.{◌≡◌, ℕ, ◌+◌, ◌<◌, ◌≤◌, Option, ℤ, List, drop, get_or, length, map, sym, ap, ◌∙◌}
use Rattle.std.proofs.lemmas.List.{drop_all, drop_more}
use Rattle.exi_pattern.specs.Joins.{joined}
use Rattle.exi_pattern.specs.Sets.{Letters}
use Rattle.xsd_tree.specs.declared.node.Node.{Node}
use Rattle.xsd_nodes.specs.Nodes.{text_at}
use Rattle.xsd_nodes.specs.declared.attribute_name.AttributeName.TheVariants as attribute
use Rattle.xsd_bounds.specs.Bounds.{greater, greatest, least_among, smaller}
use Rattle.xsd_restrictions.specs.Restrictions.{letters_among, letters_of}

module _ (f : ℕ → Option ℤ) (xs : List ℕ) (i d : ℕ) (cur all : Option ℤ) where
  pub least_passed : (new found : Option ℤ) → i < length xs → new ≡ greater cur found → found ≡ f (get_or xs i d) → greatest cur (map f (drop i xs)) ≡ all → greatest new (map f (drop (i + 1) xs)) ≡ all
  least_passed new found less is e q =
      ap (λ z. greatest z (map f (drop (i + 1) xs))) (is ∙ ap (greater cur) e) ∙ ap (λ (l : List ℕ). greatest cur (map f l)) (sym (drop_more xs i d less)) ∙ q

  pub least_ended : length xs ≤ i → greatest cur (map f (drop i xs)) ≡ all → cur ≡ all
  least_ended le q = ap (λ (l : List ℕ). greatest cur (map f l)) (sym (drop_all i xs le)) ∙ q

  pub most_passed : (new found : Option ℤ) → i < length xs → new ≡ smaller cur found → found ≡ f (get_or xs i d) → least_among cur (map f (drop i xs)) ≡ all → least_among new (map f (drop (i + 1) xs)) ≡ all
  most_passed new found less is e q =
      ap (λ z. least_among z (map f (drop (i + 1) xs))) (is ∙ ap (smaller cur) e) ∙ ap (λ (l : List ℕ). least_among cur (map f l)) (sym (drop_more xs i d less)) ∙ q

  pub most_ended : length xs ≤ i → least_among cur (map f (drop i xs)) ≡ all → cur ≡ all
  most_ended le q = ap (λ (l : List ℕ). least_among cur (map f l)) (sym (drop_all i xs le)) ∙ q

module _ (ns : List Node) (xs : List ℕ) (i d : ℕ) (cur all : Letters) where
  pub letters_passed : (new found : Letters) → i < length xs → new ≡ joined cur found → found ≡ letters_of (text_at ns attribute.Value (get_or xs i d)) → letters_among ns cur (drop i xs) ≡ all → letters_among ns new (drop (i + 1) xs) ≡ all
  letters_passed new found less is e q =
      ap (λ z. letters_among ns z (drop (i + 1) xs)) (is ∙ ap (joined cur) e) ∙ ap (letters_among ns cur) (sym (drop_more xs i d less)) ∙ q

  pub letters_ended : length xs ≤ i → letters_among ns cur (drop i xs) ≡ all → cur ≡ all
  letters_ended le q = ap (letters_among ns cur) (sym (drop_all i xs le)) ∙ q
