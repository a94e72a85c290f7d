-- The steps of each element, found in one pass over the document.
use Rattle.std.specs.Prelude.{◌≡◌, ℕ, ◌<◌, Bool, ◌&&◌, Option, Some, None, List, [], ◌∷◌, ◌++◌, get_or, length, set, if◌then◌else◌}
use Rattle.std.specs.List.{flat_map}
use Rattle.xsd_tree.specs.declared.node.Node.{Node}
use Rattle.xsd_nodes.specs.Nodes.{is_among_at, is_at, is_global, outwards}
use Rattle.xsd_nodes.specs.declared.part.Part.{Part}
use Rattle.xsd_nodes.specs.declared.part.Part.TheVariants as part
use Rattle.xsd_components.specs.References.{derivation}
use Rattle.xsd_derivations.specs.Derivations.{attribute_groups_named, derived_from, head_named}
use Rattle.xsd_steps.specs.Groups.{behind_first}
use Rattle.xsd_steps.specs.Steps.{if_global, step_to, steps, typed_parts}

-- ---- what an element lies in, with nothing but `sequence`, `choice` and `all` between
abbrev pub models : List Part
models = part.Sequence ∷ part.Choice ∷ part.All ∷ []

abbrev pub first_beyond : List Node → List ℕ → Option ℕ
first_beyond ns [] = None
first_beyond ns (j ∷ js) = if is_among_at ns models j then first_beyond ns js else Some j

abbrev pub owner : List Node → ℕ → Option ℕ
owner ns j = first_beyond ns (behind_first (outwards ns j))

-- by its parent, and by what those before it lie in
abbrev pub owner_by : List Node → List (Option ℕ) → Option ℕ → Option ℕ
owner_by ns owners None = None
owner_by ns owners (Some p) = if is_among_at ns models p then get_or owners p None else Some p

-- these are what the elements lie in
pub record AreOwners (ns : List Node) (owners : List (Option ℕ)) : Type 0 where
  pub count : length owners ≡ length ns
  pub each : (j : ℕ) → j < length ns → get_or owners j None ≡ owner ns j

-- ---- the steps of a group of elements are put together as the groups that it names are met
abbrev pub is_group : List Node → ℕ → Bool
is_group ns i = is_at ns part.Group i && is_global ns i

abbrev pub group_only : List Node → Option ℕ → Option ℕ
group_only ns None = None
group_only ns (Some i) = if is_group ns i then Some i else None

-- the group that names one by the element at a place, which lies in this
abbrev pub namer : List Node → ℕ → Option ℕ → Option ℕ
namer ns j around = if is_at ns part.Group j then group_only ns around else None

abbrev pub put : Option ℕ → Option ℕ → List (List (Option ℕ)) → List (List (Option ℕ))
put None named lists = lists
put (Some i) named lists = set lists i (get_or lists i [] ++ named ∷ [])

-- all others have theirs of their own
abbrev pub own_steps : List Node → ℕ → List (Option ℕ)
own_steps ns i =
    if is_among_at ns typed_parts i then flat_map step_to (derived_from ns (derivation ns i))
    else if is_at ns part.AttributeGroup i then if_global ns i (attribute_groups_named ns i)
    else if is_at ns part.Element i then if_global ns i (head_named ns i)
    else []

pub record AreOwnSteps (ns : List Node) (lists : List (List (Option ℕ))) : Type 0 where
  pub count : length lists ≡ length ns
  pub each : (i : ℕ) → i < length ns → get_or lists i [] ≡ own_steps ns i

-- ---- these are the steps of each element
pub record AreSteps (ns : List Node) (lists : List (List (Option ℕ))) : Type 0 where
  pub count : length lists ≡ length ns
  pub each : (i : ℕ) → i < length ns → get_or lists i [] ≡ steps ns i
