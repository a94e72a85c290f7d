-- Where a type has its attribute wildcard from (XML Schema 1.0 Part 1, section 3.4.2).
use Rattle.std.specs.Prelude.{ℕ, zero, suc, ◌==◌, Bool, true, false, Option, Some, None, List, length, if◌then◌else◌}
use Rattle.xsd_tree.specs.declared.node.Node.{Node}
use Rattle.xsd_nodes.specs.Nodes.{has, is_at}
use Rattle.xsd_nodes.specs.declared.part.Part.TheVariants as part
use Rattle.xsd_builtins.specs.BuiltIns.{any_type}
use Rattle.xsd_components.specs.References.{base, is_simple}
use Rattle.xsd_components.specs.declared.type_at.TypeAt.{TypeAt}
use Rattle.xsd_components.specs.declared.type_at.TypeAt.TheVariants as type_at
use Rattle.xsd_wildcards.specs.declared.allowed.Allowed.{Allowed}
use Rattle.xsd_wildcards.specs.declared.allowed.Allowed.TheVariants as allows
use Rattle.xsd_type_wildcards.specs.TypeWildcards.{attributes_in, own_wild}
use Rattle.xsd_type_wildcards.specs.declared.source.Source.{Source}
use Rattle.xsd_type_wildcards.specs.declared.source.Source.TheVariants as source

abbrev pub has_own : List Node → ℕ → Bool
has_own ns i = has (own_wild ns i)

-- the element that holds a type's attributes where it has a wildcard, or else what an extension inherits
abbrev pub holder_or : Bool → ℕ → Source → Source
holder_or true d of = source.Holder d
holder_or false d of = of

abbrev pub source_of_base : (TypeAt → Source) → Option TypeAt → Source
source_of_base of None = source.Nowhere
source_of_base of (Some t) = of t

abbrev pub inherited : List Node → (TypeAt → Source) → ℕ → Source
inherited ns of d = if is_at ns part.Extension d then source_of_base of (base ns d) else source.Nowhere

abbrev pub from_any_type : ℕ → Source
from_any_type place = if place == any_type then source.AnyType else source.Nowhere

abbrev pub source_within : ℕ → List Node → TypeAt → Source
source_within zero ns t = source.Nowhere
source_within (suc n) ns (type_at.Built place) = from_any_type place
source_within (suc n) ns (type_at.Node i) =
    if is_simple ns (type_at.Node i) then source.Nowhere
    else holder_or (has_own ns (attributes_in ns i)) (attributes_in ns i) (inherited ns (source_within n ns) (attributes_in ns i))

unfoldable pub source_of : List Node → TypeAt → Source
source_of ns t = source_within (suc (length ns)) ns t

-- ---- the wildcard that it is
abbrev pub is_wild : Source → Bool
is_wild source.Nowhere = false
is_wild source.AnyType = true
is_wild (source.Holder d) = true

abbrev pub wild_at : List Node → Source → Option Allowed
wild_at ns source.Nowhere = None
wild_at ns source.AnyType = Some allows.Every
wild_at ns (source.Holder d) = own_wild ns d
