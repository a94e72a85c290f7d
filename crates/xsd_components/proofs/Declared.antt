-- The components of a document, found one after another.
use Rattle.std.proofs.Common.{◌≡◌, ℕ, ◌+◌, ◌<◌, ◌≤◌, Bool, true, false, cond, ◌&&◌, Option, Some, None, List, [], ◌∷◌, ◌++◌, drop, get_or, length, refl, sym, ap, ◌∙◌}
use Rattle.std.specs.List.{find, flat_map}
use Rattle.std.proofs.lemmas.List.{append-nil, drop_all, drop_more}
use Rattle.std.proofs.lemmas.Grind.{flat_map-append}
use Rattle.exi_names.specs.declared.names.QName.{QName}
use Rattle.xsd_tree.specs.declared.node.Node.{Node}
use Rattle.xsd_nodes.specs.Nodes.{is_among_at, is_global, places}
use Rattle.xsd_nodes.specs.declared.part.Part.{Part}
use Rattle.xsd_names.specs.Names.{own_name, same_name}
use Rattle.xsd_document.proofs.Below.{below, below_more, below_zero, places_are}
use Rattle.xsd_components.specs.Globals.{first_declared, global_at, globals_of, is_declared, named_global}
use Rattle.xsd_components.specs.References.{component, declares, is_name}
use Rattle.xsd_components.specs.declared.schema.Global.{Global}

-- ---- all of them
abbrev pub globals_below : List Node → ℕ → List Global
globals_below ns j = flat_map (global_at ns) (below j)

pub globals_none : (ns : List Node) → [] ≡ globals_below ns 0
globals_none ns = ap (flat_map (global_at ns)) (sym below_zero)

pub globals_more : (ns : List Node) (old new : List Global) (j : ℕ) → old ≡ globals_below ns j → new ≡ old ++ global_at ns j → new ≡ globals_below ns (j + 1)
globals_more ns old new j old_is new_is =
    new_is
    ∙ ap (λ (l : List Global). l ++ global_at ns j) old_is
    ∙ ap (λ (l : List Global). globals_below ns j ++ l) (sym (append-nil (global_at ns j)))
    ∙ sym (flat_map-append (global_at ns) (below j) (j ∷ []))
    ∙ ap (flat_map (global_at ns)) (sym (below_more j))

pub globals_all : (ns : List Node) (all : List Global) (j : ℕ) → j ≡ length ns → all ≡ globals_below ns j → all ≡ globals_of ns
globals_all ns all j j_is e = e ∙ ap (globals_below ns) j_is ∙ ap (flat_map (global_at ns)) (sym (places_are ns))

-- ---- the first of a kind and name
-- what one element gives, by whether it is global, of the kind, and by its name
pub one_declared : (ns : List Node) (kind : List Part) (name : QName) (i : ℕ) (global : Bool) (own : Option QName) (more : List Global) (others : Option ℕ) → first_declared ns kind name more ≡ others → first_declared ns kind name (cond global (named_global i own) [] ++ more) ≡ cond (global && is_among_at ns kind i && is_name name own) (Some i) others
one_declared ns kind name i false own more others e = e
one_declared ns kind name i true None more others e = e ∙ none_of (is_among_at ns kind i) i others
  where
    none_of : (b : Bool) (i : ℕ) (others : Option ℕ) → others ≡ cond (b && false) (Some i) others
    none_of true i others = refl
    none_of false i others = refl
one_declared ns kind name i true (Some n) more others e = ap (λ (o : Option ℕ). cond (is_among_at ns kind i && same_name name n) (Some i) o) e

pub first_is : (ns : List Node) (kind : List Part) (name : QName) (xs : List ℕ) → first_declared ns kind name (flat_map (global_at ns) xs) ≡ find (declares ns kind name) xs
first_is ns kind name [] = refl
first_is ns kind name (i ∷ is) = one_declared ns kind name i (is_global ns i) (own_name ns i) (flat_map (global_at ns) is) (find (declares ns kind name) is) (first_is ns kind name is)

pub component_is : (ns : List Node) (kind : List Part) (name : QName) → first_declared ns kind name (globals_of ns) ≡ component ns kind name
component_is ns kind name = first_is ns kind name (places ns)

-- ---- for the loop
pub declared_found : (d : Global) (ns : List Node) (kind : List Part) (name : QName) (xs : List Global) (i : ℕ) (all : Option ℕ) → i < length xs → true ≡ is_declared ns kind name (get_or xs i d) → first_declared ns kind name (drop i xs) ≡ all → Some (get_or xs i d).place ≡ all
declared_found d ns kind name xs i all less e q =
    ap (λ b. cond b (Some (get_or xs i d).place) (first_declared ns kind name (drop (i + 1) xs))) e
    ∙ ap (first_declared ns kind name) (sym (drop_more xs i d less))
    ∙ q

pub declared_passed : (d : Global) (ns : List Node) (kind : List Part) (name : QName) (xs : List Global) (i : ℕ) (all : Option ℕ) → i < length xs → false ≡ is_declared ns kind name (get_or xs i d) → first_declared ns kind name (drop i xs) ≡ all → first_declared ns kind name (drop (i + 1) xs) ≡ all
declared_passed d ns kind name xs i all less e q =
    ap (λ b. cond b (Some (get_or xs i d).place) (first_declared ns kind name (drop (i + 1) xs))) e
    ∙ ap (first_declared ns kind name) (sym (drop_more xs i d less))
    ∙ q

pub declared_ended : (ns : List Node) (kind : List Part) (name : QName) (xs : List Global) (i : ℕ) (all : Option ℕ) → length xs ≤ i → first_declared ns kind name (drop i xs) ≡ all → None ≡ all
declared_ended ns kind name xs i all le q = ap (first_declared ns kind name) (sym (drop_all i xs le)) ∙ q
