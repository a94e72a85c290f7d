-- The attributes of a type with those that it has of its bases (XML Schema 1.0 Part 1, section 3.4.2), in the order in which
-- a grammar has them (EXI 1.0, section 8.5.4.1.3.2).
use Rattle.std.specs.Prelude.{ℕ, zero, suc, ◌&&◌, ◌||◌, Bool, false, Option, Some, None, List, [], ◌∷◌, ◌++◌, length, slice_get, option_to_list, bytes_eq, if◌then◌else◌}
use Rattle.std.specs.List.{flat_map}
use Rattle.exi_gram.specs.Orders.{in_order, pair_before}
use Rattle.xsd_model.specs.declared.parts.AttributeDecl.{AttributeDecl}
use Rattle.xsd_model.specs.declared.parts.AttributeGroup.{AttributeGroup}
use Rattle.xsd_model.specs.declared.parts.AttributeUse.{AttributeUse}
use Rattle.xsd_model.specs.declared.parts.AttributeUse.TheVariants as usage
use Rattle.xsd_model.specs.Parts.{Parts}
use Rattle.exi_inherited.specs.Bases.{complex_base, own_uses}
use Rattle.exi_inherited.specs.declared.uses.Use.{Use}

-- the local name and the URI of the attribute at a place
abbrev pub attribute_pair : Parts → ℕ → List ℕ × List ℕ
attribute_pair p place = of_declaration (slice_get p.attributes place)
  where
    of_declaration : Option AttributeDecl → List ℕ × List ℕ
    of_declaration None = ([], [])
    of_declaration (Some a) = (a.name.local, a.name.uri)

abbrev pub same_pair : List ℕ × List ℕ → List ℕ × List ℕ → Bool
same_pair a b = bytes_eq a.0 b.0 && bytes_eq a.1 b.1

-- ---- what a type says, in its order
-- what is said of the attribute of a name: that it may stand, or that it may not
pub record Said : Type 0 where
  pub name : List ℕ × List ℕ
  pub use_of : Option Use

abbrev pub uses_in : Option AttributeGroup → List AttributeUse
uses_in None = []
uses_in (Some g) = g.uses

abbrev pub group_uses : Parts → ℕ → List AttributeUse
group_uses p place = uses_in (slice_get p.attribute_groups place)

-- with the groups that are named in its place, so many deep
abbrev pub said_by : ℕ → Parts → AttributeUse → List Said
said_by n p (usage.Use attribute required) = record { name = attribute_pair p attribute; use_of = Some (record { attribute = attribute; required = required }) } ∷ []
said_by n p (usage.Prohibited name) = record { name = (name.local, name.uri); use_of = None } ∷ []
said_by zero p (usage.Group group) = []
said_by (suc n) p (usage.Group group) = flat_map (said_by n p) (group_uses p group)

-- no group names itself, so there are fewer levels than groups
abbrev pub said_of : Parts → AttributeUse → List Said
said_of p u = said_by (suc (length p.attribute_groups)) p u

-- by the type at a place and its bases so many steps up: those of the base in front
abbrev pub said_within : ℕ → Parts → ℕ → List Said
said_within zero p place = []
said_within (suc n) p place = flat_map (said_within n p) (option_to_list (complex_base p place)) ++ flat_map (said_of p) (own_uses p place)

abbrev pub said_in : Parts → ℕ → List Said
said_in p place = said_within (suc (length p.types)) p place

-- ---- what counts: of each name what is said last
abbrev pub says : List ℕ × List ℕ → List Said → Bool
says name [] = false
says name (s ∷ ss) = same_pair name s.name || says name ss

abbrev pub uses_left : List Said → List Use
uses_left [] = []
uses_left (s ∷ ss) = if says s.name ss then uses_left ss else option_to_list s.use_of ++ uses_left ss

-- ---- in order: by the local name, then by the URI
abbrev pub use_before : Parts → Use → Use → Bool
use_before p a b = pair_before (attribute_pair p a.attribute) (attribute_pair p b.attribute)

abbrev pub uses_of : Parts → ℕ → List Use
uses_of p place = in_order (use_before p) (uses_left (said_in p place))
