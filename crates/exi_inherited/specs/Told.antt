-- What is told of attributes, from the end of what is said to its front.
use Rattle.std.specs.Prelude.{ℕ, Option, Some, None, List, [], ◌∷◌, ◌++◌, reverse, option_to_list, if◌then◌else◌}
use Rattle.std.specs.List.{flat_map}
use Rattle.xsd_model.specs.declared.parts.AttributeUse.{AttributeUse}
use Rattle.xsd_model.specs.declared.parts.AttributeUse.TheVariants as usage
use Rattle.xsd_model.specs.Parts.{Parts}
use Rattle.exi_inherited.specs.Uses.{Said, attribute_pair, says}
use Rattle.exi_inherited.specs.declared.told.NameKey.{NameKey}
use Rattle.exi_inherited.specs.declared.uses.Use.{Use}

abbrev pub key_pair : NameKey → List ℕ × List ℕ
key_pair k = (k.local, k.uri)

abbrev pub said_entry : NameKey × Option Use → Said
said_entry e = record { name = key_pair e.0; use_of = e.1 }

-- of each name the first that is told stays
abbrev pub told_with : Said → List Said → List Said
told_with s told = if says s.name told then told else told ++ s ∷ []

-- the last is told first
abbrev pub told_with_all : List Said → List Said → List Said
told_with_all [] told = told
told_with_all (s ∷ ss) told = told_with s (told_with_all ss told)

-- the uses that were told, the last in front
abbrev pub use_said : Said → List Use
use_said s = option_to_list s.use_of

-- the use that was told, where one was
abbrev pub use_in : Option Said → Option Use
use_in None = None
use_in (Some s) = s.use_of

abbrev pub left_of : List Said → List Use
left_of told = flat_map use_said (reverse told)

-- ---- what a use says
-- by itself
abbrev pub leaf : Parts → AttributeUse → List Said
leaf p (usage.Use attribute required) = record { name = attribute_pair p attribute; use_of = Some (record { attribute = attribute; required = required }) } ∷ []
leaf p (usage.Prohibited name) = record { name = (name.local, name.uri); use_of = None } ∷ []
leaf p (usage.Group group) = []

-- the group that it names
abbrev pub group_named : AttributeUse → Option ℕ
group_named (usage.Use attribute required) = None
group_named (usage.Prohibited name) = None
group_named (usage.Group group) = Some group

-- ---- what a use is sorted by
abbrev pub use_pair : Parts → Use → List ℕ × List ℕ
use_pair p u = attribute_pair p u.attribute
