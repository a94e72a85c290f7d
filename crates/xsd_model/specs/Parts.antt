-- The parts of a schema: what it declares, each by the places of what it names, and what holds of them (XML Schema 1.0
-- Part 1, section 2.2).
use Rattle.std.specs.Prelude.{◌≡◌, ℕ, zero, suc, ◌<◌, ◌≤◌, Bool, true, false, Option, Some, None, List, [], ◌∷◌, ◌++◌, All, length, slice_get, get_or, option_to_list}
use Rattle.std.specs.List.{list_all, flat_map}
use Rattle.exi_names.specs.Datatypes.{Representation, represented, list, text}
use Rattle.xsd_model.specs.declared.parts.AttributeDecl.{AttributeDecl}
use Rattle.xsd_model.specs.declared.parts.AttributeGroup.{AttributeGroup}
use Rattle.xsd_model.specs.declared.parts.AttributeUse.{AttributeUse}
use Rattle.xsd_model.specs.declared.parts.AttributeUse.TheVariants as usage
use Rattle.xsd_model.specs.declared.parts.Content.{Content}
use Rattle.xsd_model.specs.declared.parts.Content.TheVariants as content
use Rattle.xsd_model.specs.declared.parts.ElementDecl.{ElementDecl}
use Rattle.xsd_model.specs.declared.parts.Form.{Form}
use Rattle.xsd_model.specs.declared.parts.Form.TheVariants as form
use Rattle.xsd_model.specs.declared.parts.Group.{Group}
use Rattle.xsd_model.specs.declared.parts.Particle.{Particle}
use Rattle.xsd_model.specs.declared.parts.Term.{Term}
use Rattle.xsd_model.specs.declared.parts.Term.TheVariants as term
use Rattle.xsd_model.specs.declared.parts.TypeBody.{TypeBody}
use Rattle.xsd_model.specs.declared.parts.TypeBody.TheVariants as body
use Rattle.xsd_model.specs.declared.parts.TypeDef.{TypeDef}

-- ---- how values are represented
-- by a form behind those that stand for these representations
abbrev pub represented_form : List Representation → Form → Representation
represented_form before (form.Item datatype) = represented datatype
represented_form before (form.List item) = list (get_or before item text)

-- by each of the forms, behind these
abbrev pub represented_behind : List Representation → List Form → List Representation
represented_behind before [] = before
represented_behind before (f ∷ fs) = represented_behind (before ++ represented_form before f ∷ []) fs

abbrev pub representations : List Form → List Representation
representations forms = represented_behind [] forms

-- a list's items are of a form before it; there are so many before these
abbrev pub IsForm : ℕ → Form → Type 0
IsForm place (form.Item datatype) = Unit {0}
IsForm place (form.List item) = item < place

abbrev pub AreForms : ℕ → List Form → Type 0
AreForms place [] = Unit {0}
AreForms place (f ∷ fs) = IsForm place f × AreForms (suc place) fs

-- ---- what a schema declares
pub record Parts : Type 0 where
  -- the target namespace of the document, empty where it has none
  pub target : List ℕ
  pub elements : List ElementDecl
  pub attributes : List AttributeDecl
  pub types : List TypeDef
  pub groups : List Group
  pub attribute_groups : List AttributeGroup
  pub particles : List Particle
  -- how values of simple types are represented
  pub forms : List Representation

-- ---- what is named where
abbrev pub is_simple_body : TypeBody → Bool
is_simple_body (body.Simple form union) = true
is_simple_body (body.Complex complex) = false
is_simple_body body.Ur = false

abbrev pub is_simple_type : Option TypeDef → Bool
is_simple_type None = false
is_simple_type (Some t) = is_simple_body t.body

-- the type at a place is there and simple
abbrev pub IsSimpleAt : Parts → ℕ → Type 0
IsSimpleAt p place = is_simple_type (slice_get p.types place) ≡ true

abbrev pub IsBelow : ℕ → Option ℕ → Type 0
IsBelow most None = Unit {0}
IsBelow most (Some place) = place < most

-- ---- paths
-- each path that `next` leads along from a place ends within so many steps
abbrev pub all_end : (ℕ → List ℕ) → ℕ → ℕ → Bool
all_end next zero place = false
all_end next (suc n) place = list_all (all_end next n) (next place)

-- from a type to its base
abbrev pub base_in : Option TypeDef → List ℕ
base_in None = []
base_in (Some t) = option_to_list t.base

abbrev pub bases_at : Parts → ℕ → List ℕ
bases_at p place = base_in (slice_get p.types place)

-- from an element to the head of its substitution group
abbrev pub head_in : Option ElementDecl → List ℕ
head_in None = []
head_in (Some e) = option_to_list e.head

abbrev pub heads_at : Parts → ℕ → List ℕ
heads_at p place = head_in (slice_get p.elements place)

-- from a group of attributes to those that it names
abbrev pub group_in : AttributeUse → List ℕ
group_in (usage.Use attribute required) = []
group_in (usage.Prohibited name) = []
group_in (usage.Group group) = group ∷ []

abbrev pub groups_in : Option AttributeGroup → List ℕ
groups_in None = []
groups_in (Some g) = flat_map group_in g.uses

abbrev pub attribute_groups_at : Parts → ℕ → List ℕ
attribute_groups_at p place = groups_in (slice_get p.attribute_groups place)

-- from a group of elements to those that its particle names, which lie within so many levels
abbrev pub named_by : (ℕ → List ℕ) → Option Particle → List ℕ
named_by within None = []
named_by within (Some particle) = by_term particle.term
  where
    by_term : Term → List ℕ
    by_term (term.Element element) = []
    by_term (term.Group group) = group ∷ []
    by_term (term.Sequence places) = flat_map within places
    by_term (term.Choice places) = flat_map within places
    by_term (term.Wild wild) = []

abbrev pub named_within : ℕ → List Particle → ℕ → List ℕ
named_within zero particles place = []
named_within (suc n) particles place = named_by (named_within n particles) (slice_get particles place)

abbrev pub particle_in : Option Group → List ℕ
particle_in None = []
particle_in (Some g) = option_to_list g.particle

abbrev pub groups_at : Parts → ℕ → List ℕ
groups_at p place = flat_map (named_within (length p.particles) p.particles) (particle_in (slice_get p.groups place))

-- ---- what holds of the parts
pub record IsElement (p : Parts) (e : ElementDecl) : Type 0 where
  pub type_is : e.of < length p.types
  pub head_is : IsBelow (length p.elements) e.head

pub record IsAttribute (p : Parts) (a : AttributeDecl) : Type 0 where
  pub simple : IsSimpleAt p a.of

abbrev pub IsUse : Parts → AttributeUse → Type 0
IsUse p (usage.Use attribute required) = attribute < length p.attributes
IsUse p (usage.Prohibited name) = Unit {0}
IsUse p (usage.Group group) = group < length p.attribute_groups

abbrev pub IsContent : Parts → Content → Type 0
IsContent p content.Empty = Unit {0}
IsContent p (content.Simple place) = IsSimpleAt p place
IsContent p (content.Parts particle mixed) = IsBelow (length p.particles) particle

abbrev pub IsBody : Parts → TypeBody → Type 0
IsBody p (body.Simple form union) = form < length p.forms
IsBody p (body.Complex complex) = All (IsUse p) complex.uses × IsContent p complex.content
IsBody p body.Ur = Unit {0}

pub record IsType (p : Parts) (t : TypeDef) : Type 0 where
  pub base_is : IsBelow (length p.types) t.base
  pub body_is : IsBody p t.body

-- the particles within one lie behind it
abbrev pub IsWithin : ℕ → ℕ → ℕ → Type 0
IsWithin place most inner = (place < inner) × (inner < most)

abbrev pub IsTerm : Parts → ℕ → Term → Type 0
IsTerm p place (term.Element element) = element < length p.elements
IsTerm p place (term.Group group) = group < length p.groups
IsTerm p place (term.Sequence places) = All (IsWithin place (length p.particles)) places
IsTerm p place (term.Choice places) = All (IsWithin place (length p.particles)) places
IsTerm p place (term.Wild wild) = Unit {0}

-- not more at least than at most
abbrev pub IsAtMost : ℕ → Option ℕ → Type 0
IsAtMost least None = Unit {0}
IsAtMost least (Some most) = least ≤ most

pub record IsParticle (p : Parts) (place : ℕ) (particle : Particle) : Type 0 where
  pub term_is : IsTerm p place particle.term
  pub bounds : IsAtMost particle.least particle.most

abbrev pub AreParticles : Parts → ℕ → List Particle → Type 0
AreParticles p place [] = Unit {0}
AreParticles p place (x ∷ xs) = IsParticle p place x × AreParticles p (suc place) xs

-- each path along these from a place below so many ends
abbrev pub AllEnd : (ℕ → List ℕ) → ℕ → Type 0
AllEnd next most = (place : ℕ) → place < most → all_end next most place ≡ true

pub record IsSchemaParts (p : Parts) : Type 0 where
  pub elements : All (IsElement p) p.elements
  pub attributes : All (IsAttribute p) p.attributes
  pub types : All (IsType p) p.types
  pub groups : All (λ g. IsBelow (length p.particles) g.particle) p.groups
  pub attribute_groups : All (λ g. All (IsUse p) g.uses) p.attribute_groups
  pub particles : AreParticles p 0 p.particles
  -- nothing reaches itself
  pub bases : AllEnd (bases_at p) (length p.types)
  pub heads : AllEnd (heads_at p) (length p.elements)
  pub group_names : AllEnd (groups_at p) (length p.groups)
  pub attribute_group_names : AllEnd (attribute_groups_at p) (length p.attribute_groups)
