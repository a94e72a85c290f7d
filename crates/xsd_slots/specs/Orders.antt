-- The order in which the elements of a document stand, found in one pass over it.
use Rattle.std.specs.Prelude.{◌≡◌, ℕ, ◌<◌, Option, Some, None, List, get_or, length, set}
use Rattle.xsd_tree.specs.declared.node.Node.{Node}
use Rattle.xsd_nodes.specs.Nodes.{parent_at}
use Rattle.xsd_slots.specs.Slots.{come_to, later, own_in}

-- the slot to which what stands before an element in the same one has come
abbrev pub come_in : List Node → ℕ → Option ℕ → ℕ
come_in ns i None = 0
come_in ns i (Some p) = come_to ns i p

abbrev pub before_at : List Node → ℕ → ℕ
before_at ns i = come_in ns i (parent_at ns i)

-- these are the slots of the elements
pub record AreBefore (ns : List Node) (before : List ℕ) : Type 0 where
  pub count : length before ≡ length ns
  pub each : (i : ℕ) → i < length ns → get_or before i 0 ≡ before_at ns i

-- by a parent's number
abbrev pub reached_by : List ℕ → Option ℕ → ℕ
reached_by reached None = 0
reached_by reached (Some p) = get_or reached p 0

-- an element brings what holds it to its own slot
abbrev pub raised : List Node → Option ℕ → ℕ → List ℕ → List ℕ
raised ns None i reached = reached
raised ns (Some p) i reached = set reached p (later (get_or reached p 0) (own_in ns p i))
