-- Names of XML Schema, and how the values of its built-in types are represented.
use Rattle.std.proofs.Common.{◌≡◌, ℕ, None, List, refl, ap₂, ◌∙◌}
use Rattle.std.specs.Str.{chars}
use Rattle.exi_names.specs.declared.names.QName.{QName}
use Rattle.xsd_tree.specs.Trees.{xsd}
use Rattle.xsd_tree.specs.declared.node.Node.{Node}
use Rattle.xsd_components.specs.declared.type_at.TypeAt.TheVariants as type_at
use Rattle.xsd_nodes.proofs.Words.{xsd_chars}
use Rattle.xsd_simple.specs.Simple.{built_in_simple, form_of, simple_of}

abbrev pub full_name : List ℕ → List ℕ → QName
full_name uri local = record { uri = uri; local = local; prefix = None }

pub xsd_named : (uri local word : List ℕ) → uri ≡ chars xsd → local ≡ word → full_name uri local ≡ full_name xsd word
xsd_named uri local word u l = ap₂ full_name (u ∙ xsd_chars) l

pub built_in_form : (ns : List Node) (place : ℕ) → form_of (simple_of ns (type_at.Built place)) ≡ form_of (built_in_simple place)
unfolding simple_of
built_in_form ns place = refl
