-- The first element that shows something, found one after another.
use Rattle.std.proofs.Common.{◌≡◌, ℕ, suc, ◌+◌, ◌<◌, ◌≤◌, Option, Some, None, List, drop, get_or, length, refl, sym, ap, ◌∙◌, arith}
use Rattle.std.proofs.lemmas.List.{drop_all, drop_more}
use Rattle.xsd_schema.specs.Shown.{first_from, or_later}
use Rattle.xsd_model.specs.declared.fault.SchemaFault.{SchemaFault}
use Rattle.xsd_model.specs.declared.fault.SchemaKind.{SchemaKind}
use Rattle.xsd_tree.specs.declared.node.Node.{Node}

-- from the element at this place on
abbrev pub first_behind : (ℕ → Option SchemaKind) → List Node → ℕ → Option SchemaFault
first_behind shows ns i = first_from shows i (drop i ns)

first_step : (d : Node) (shows : ℕ → Option SchemaKind) (ns : List Node) (i : ℕ) → i < length ns → first_behind shows ns i ≡ or_later (get_or ns i d).event (shows i) (first_behind shows ns (i + 1))
first_step d shows ns i less = ap (first_from shows i) (drop_more ns i d less) ∙ ap (λ (j : ℕ). or_later (get_or ns i d).event (shows i) (first_from shows j (drop (i + 1) ns))) (omega arith)

-- it shows something
pub first_found : (d : Node) (shows : ℕ → Option SchemaKind) (ns : List Node) (i : ℕ) (k : SchemaKind) (all : Option SchemaFault) → i < length ns → shows i ≡ Some k → first_behind shows ns i ≡ all → Some (record { kind = k; event = (get_or ns i d).event }) ≡ all
first_found d shows ns i k all less e q = sym (ap (λ (o : Option SchemaKind). or_later (get_or ns i d).event o (first_behind shows ns (i + 1))) e) ∙ sym (first_step d shows ns i less) ∙ q

-- it shows nothing
pub first_passed : (d : Node) (shows : ℕ → Option SchemaKind) (ns : List Node) (i : ℕ) (all : Option SchemaFault) → i < length ns → shows i ≡ None → first_behind shows ns i ≡ all → first_behind shows ns (i + 1) ≡ all
first_passed d shows ns i all less e q = sym (ap (λ (o : Option SchemaKind). or_later (get_or ns i d).event o (first_behind shows ns (i + 1))) e) ∙ sym (first_step d shows ns i less) ∙ q

-- none is left
pub first_ended : (shows : ℕ → Option SchemaKind) (ns : List Node) (i : ℕ) (all : Option SchemaFault) → length ns ≤ i → first_behind shows ns i ≡ all → None ≡ all
first_ended shows ns i all le q = sym (ap (first_from shows i) (drop_all i ns le)) ∙ q
