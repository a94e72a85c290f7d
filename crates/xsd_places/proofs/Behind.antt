-- Behind the last element none declares anything.
use Rattle.std.proofs.Common.{◌≡◌, ℕ, ◌+◌, ◌<◌, ◌≤◌, ◌^◌, Bool, true, false, cond, ◌||◌, ◌&&◌, not, ltb, inl, inr, List, [], ◌∷◌, length, slice_get, refl, sym, ap, ◌∙◌, arith}
use Rattle.std.proofs.lemmas.Bool.{cases_lt, ltb-false}
use Rattle.std.proofs.lemmas.Option.{slice_get_past}
use Rattle.xsd_tree.specs.declared.node.Node.{Node}
use Rattle.xsd_nodes.specs.Nodes.{holder, is_global, is_skipped, part_at, part_in}
use Rattle.xsd_nodes.specs.PartNames.{is_among, is_part}
use Rattle.xsd_nodes.specs.declared.part.Part.{Part}
use Rattle.xsd_nodes.specs.declared.part.Part.TheVariants as part
use Rattle.xsd_places.specs.Counted.{IsCounted}
use Rattle.xsd_places.specs.Kinds.{count_before, is_kind, is_node_of, is_prohibited, place_of, refers}
use Rattle.xsd_places.specs.declared.counts.Counts.{Counts}
use Rattle.xsd_places.specs.declared.kind.Kind.{Kind}
use Rattle.xsd_places.specs.declared.kind.Kind.TheVariants as kind
use Rattle.xsd_places.proofs.Counting.{count_le, none_behind}

pub part_behind : (ns : List Node) (j : ℕ) → length ns ≤ j → part_at ns j ≡ part.Other
part_behind ns j le = ap part_in (slice_get_past ns j le)

pub node_behind : (k : Kind) (ns : List Node) (j : ℕ) → length ns ≤ j → is_node_of k ns j ≡ false
node_behind kind.Element ns j le = ap (λ (p : Part). is_part part.Element p && not (refers ns j)) (part_behind ns j le)
node_behind kind.Attribute ns j le = ap (λ (p : Part). is_part part.Attribute p && not (refers ns j) && not (is_prohibited ns j)) (part_behind ns j le)
node_behind kind.Type ns j le = ap (λ (p : Part). (is_part part.SimpleType p || (is_part part.Restriction p && is_part part.SimpleContent (holder ns j))) || is_part part.ComplexType p) (part_behind ns j le)
node_behind kind.Simple ns j le = ap (λ (p : Part). is_part part.SimpleType p || (is_part part.Restriction p && is_part part.SimpleContent (holder ns j))) (part_behind ns j le)
node_behind kind.Group ns j le = ap (λ (p : Part). is_part part.Group p && is_global ns j) (part_behind ns j le)
node_behind kind.AttributeGroup ns j le = ap (λ (p : Part). is_part part.AttributeGroup p && is_global ns j) (part_behind ns j le)
node_behind kind.Particle ns j le =
    ap (λ (p : Part).
    ((is_among (part.Element ∷ part.Group ∷ []) p && not (is_global ns j))
    || is_part part.Any p
    || (is_among (part.Sequence ∷ part.Choice ∷ part.All ∷ []) p && not (is_part part.Group (holder ns j))))
    || is_among (part.Sequence ∷ part.Choice ∷ part.All ∷ []) p)
    (part_behind ns j le)

pub skipped_or_not : (b : Bool) → cond b false false ≡ false
skipped_or_not true = refl
skipped_or_not false = refl

pub kind_behind : (k : Kind) (ns : List Node) (j : ℕ) → length ns ≤ j → is_kind k ns j ≡ false
kind_behind k ns j le = ap (cond (is_skipped ns j) false) (node_behind k ns j le) ∙ skipped_or_not (is_skipped ns j)

-- the number of all for a place behind them
pub all_before : (k : Kind) (ns : List Node) (before items : List ℕ) (all i : ℕ) → items ≡ before → length before ≡ length ns → all ≡ count_before (is_kind k ns) (length ns) → false ≡ ltb i (length items) → all ≡ place_of k ns i
all_before k ns before items all i items_are count all_is outside =
    let le : length items ≤ i = ltb-false i (length items) (sym outside) in
    let behind : length ns ≤ i = omega (arith, le, ap length items_are, count) in
    all_is ∙ none_behind (is_kind k ns) (length ns) i (λ j less. kind_behind k ns j less) behind

-- no place is more than there are elements
pub place_le : (k : Kind) (ns : List Node) (i : ℕ) → place_of k ns i ≤ length ns
place_le k ns i = elim (cases_lt i (length ns)) [
  | inl less ↦ let le = count_le (is_kind k ns) i in omega (arith, le, less)
  | inr not_less ↦
      let behind : length ns ≤ i = omega (arith, not_less) in
      let e = none_behind (is_kind k ns) (length ns) i (λ j le. kind_behind k ns j le) behind in
      let le = count_le (is_kind k ns) (length ns) in omega (arith, e, le)
]

pub place_few : (k : Kind) (ns : List Node) (i r : ℕ) → r ≡ place_of k ns i → length ns ≤ 2 ^ 28 → r ≤ 2 ^ 28
place_few k ns i r e few = let le = place_le k ns i in omega (arith, e, le, few)
