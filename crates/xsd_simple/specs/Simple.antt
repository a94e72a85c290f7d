-- What the simple types of a document are, each by the steps of its derivation from a built-in type (EXI 1.0, section 7.1 and
-- appendix D; XML Schema 1.0 Part 2, section 4.1.2). What one step says stands with restrictions.
use Rattle.std.specs.Prelude.{ℕ, zero, suc, Option, Some, None, List, length, if◌then◌else◌}
use Rattle.exi_names.specs.Datatypes.{Representation}
use Rattle.xsd_tree.specs.declared.node.Node.{Node}
use Rattle.xsd_nodes.specs.declared.part.Part.TheVariants as part
use Rattle.xsd_nodes.specs.Nodes.{is_at}
use Rattle.xsd_components.specs.References.{derivation, item}
use Rattle.xsd_components.specs.declared.type_at.TypeAt.{TypeAt}
use Rattle.xsd_components.specs.declared.type_at.TypeAt.TheVariants as type_at
use Rattle.xsd_restrictions.specs.Restrictions.{any_simple_but, atomic, listed, restricted, united}
pub use Rattle.xsd_restrictions.specs.Restrictions.{Simple, built_in_simple, facet_value, form_at, form_of, is_not_enumerable, is_united}
use Rattle.xsd_values.specs.Restricted.{restricted_type}

-- nothing is known of a type that is not there
abbrev pub if_type : (TypeAt → Simple) → Option TypeAt → Simple
if_type of None = any_simple_but atomic
if_type of (Some t) = of t

abbrev pub derived_simple : List Node → (TypeAt → Simple) → ℕ → Simple
derived_simple ns of d =
    if is_at ns part.List d then any_simple_but (listed (form_of (if_type of (item ns d))))
    else if is_at ns part.Union d then any_simple_but united
    else if is_at ns part.Restriction d then restricted ns d (if_type of (restricted_type ns d))
    else any_simple_but atomic

abbrev pub simple_derived : List Node → (TypeAt → Simple) → Option ℕ → Simple
simple_derived ns of None = any_simple_but atomic
simple_derived ns of (Some d) = derived_simple ns of d

-- through so many types
abbrev pub simple_within : ℕ → List Node → TypeAt → Simple
simple_within zero ns t = any_simple_but atomic
simple_within (suc n) ns (type_at.Built place) = built_in_simple place
simple_within (suc n) ns (type_at.Node i) = simple_derived ns (simple_within n ns) (derivation ns i)

unfoldable pub simple_of : List Node → TypeAt → Simple
simple_of ns t = simple_within (suc (length ns)) ns t

-- a document, and the representations that its simple types share
pub record Shared : Type 0 where
  pub nodes : List Node
  pub forms : List Representation
