-- The elements of a schema document.
use Rattle.std.specs.Prelude.{◌≡◌, ℕ, suc, ◌<◌, ◌≤◌, ◌^◌, ◌&&◌, Bool, true, List, [], ◌∷◌, length, codes, Option, Some, None}
use Rattle.std.specs.Str.{bytes_eq}
use Rattle.exi_names.specs.declared.names.QName.{QName}
use Rattle.xsd_tree.specs.declared.node.Node.{Node}

-- the namespace of XML Schema
abbrev pub xsd : List ℕ
xsd = codes "http://www.w3.org/2001/XMLSchema"

-- the element `schema` of XML Schema
abbrev pub is_schema : QName → Bool
is_schema n = bytes_eq n.uri xsd && bytes_eq n.local (codes "schema")

-- its parent stands before it; without a parent it is a schema
abbrev pub IsPlaced : ℕ → QName → Option ℕ → Type 0
IsPlaced place name None = is_schema name ≡ true
IsPlaced place name (Some parent) = parent < place

-- each from this place on
abbrev pub ArePlaced : ℕ → List Node → Type 0
ArePlaced place [] = Unit {0}
ArePlaced place (n ∷ ns) = IsPlaced place n.name n.parent × ArePlaced (suc place) ns

-- one element at least and at most 2^28, each at a place where it may stand
pub record IsTree (nodes : List Node) : Type 0 where
  pub some_node : 0 < length nodes
  pub few : length nodes ≤ 2 ^ 28
  pub placed : ArePlaced 0 nodes
