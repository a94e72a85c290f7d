-- What each element holds, found in one pass over the document.
use Rattle.std.specs.Prelude.{◌≡◌, ℕ, ◌<◌, Bool, Option, Some, None, List, [], ◌∷◌, ◌++◌, filter, get_or, length, set}
use Rattle.xsd_tree.specs.declared.node.Node.{Node}
use Rattle.xsd_nodes.specs.Nodes.{is_place, parent_at, places}

-- an element holds another directly
abbrev pub holds : List Node → ℕ → ℕ → Bool
holds ns i j = is_place i (parent_at ns j)

-- the places of all that an element holds directly, in order
abbrev pub held : List Node → ℕ → List ℕ
held ns i = filter (holds ns i) (places ns)

-- a place more among those that its parent holds
abbrev pub put : Option ℕ → ℕ → List (List ℕ) → List (List ℕ)
put None place lists = lists
put (Some parent) place lists = set lists parent (get_or lists parent [] ++ place ∷ [])

-- these are what each element holds
pub record IsHeld (ns : List Node) (lists : List (List ℕ)) : Type 0 where
  pub count : length lists ≡ length ns
  pub each : (i : ℕ) → i < length ns → get_or lists i [] ≡ held ns i
