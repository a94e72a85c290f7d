-- The components that stand directly within a schema, with their names.
use Rattle.std.specs.Prelude.{◌≡◌, ℕ, Bool, ◌&&◌, Option, Some, None, List, [], ◌∷◌, ◌++◌, if◌then◌else◌}
use Rattle.std.specs.List.{flat_map}
use Rattle.std.specs.Map.{lookup}
use Rattle.std.specs.Str.{bytes_eq}
use Rattle.exi_names.specs.declared.names.QName.{QName}
use Rattle.xsd_tree.specs.declared.node.Node.{Node}
use Rattle.xsd_nodes.specs.Nodes.{is_among_at, is_global, places}
use Rattle.xsd_nodes.specs.declared.part.Part.{Part}
use Rattle.xsd_names.specs.Names.{own_name, same_name}
use Rattle.xsd_components.specs.References.{component}
use Rattle.xsd_components.specs.declared.schema.Global.{Global}

abbrev pub named_global : ℕ → Option QName → List Global
named_global i None = []
named_global i (Some name) = record { place = i; name = name } ∷ []

abbrev pub global_at : List Node → ℕ → List Global
global_at ns i = if is_global ns i then named_global i (own_name ns i) else []

abbrev pub globals_of : List Node → List Global
globals_of ns = flat_map (global_at ns) (places ns)

-- the first of them that is of a kind and name
abbrev pub is_declared : List Node → List Part → QName → Global → Bool
is_declared ns kind name g = is_among_at ns kind g.place && same_name name g.name

abbrev pub first_declared : List Node → List Part → QName → List Global → Option ℕ
first_declared ns kind name [] = None
first_declared ns kind name (g ∷ gs) = if is_declared ns kind name g then Some g.place else first_declared ns kind name gs

-- ---- by local names: of each part and name the first alone is kept
abbrev pub Firsts : Type 0
Firsts = List (List ℕ × List Global)

abbrev pub found_in : List Node → List Part → QName → Option (List Global) → Option ℕ
found_in ns kind name None = None
found_in ns kind name (Some gs) = first_declared ns kind name gs

abbrev pub found : List Node → Firsts → List Part → QName → Option ℕ
found ns firsts kind name = found_in ns kind name (lookup (bytes_eq name.local) firsts)

-- one that is found, or else this
abbrev pub or_place : ℕ → Option ℕ → Option ℕ
or_place new None = Some new
or_place new (Some place) = Some place

abbrev pub or_new : Option ℕ → Option ℕ → Option ℕ
or_new None place = place
or_new (Some new) place = or_place new place

-- one is put behind those of its local name
abbrev pub or_none : Option (List Global) → List Global
or_none None = []
or_none (Some gs) = gs

abbrev pub IsPut : Firsts → Firsts → Global → Type 0
IsPut old new g =
    (local : List ℕ) → lookup (bytes_eq local) new ≡ (if bytes_eq local g.name.local then Some (or_none (lookup (bytes_eq local) old) ++ g ∷ []) else lookup (bytes_eq local) old)

-- these are more by those
abbrev pub AreMore : List Node → Firsts → Firsts → List Global → Type 0
AreMore ns old new more = (kind : List Part) (name : QName) → found ns new kind name ≡ or_new (first_declared ns kind name more) (found ns old kind name)

-- by these each component is found
abbrev pub AreFirsts : List Node → Firsts → Type 0
AreFirsts ns firsts = (kind : List Part) (name : QName) → found ns firsts kind name ≡ component ns kind name
