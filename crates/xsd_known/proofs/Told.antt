-- What types have of their bases, and which elements stand for others, do not hang on where it lies how values are represented.
use Rattle.std.proofs.Common.{◌≡◌, ◌||◌, ◌==◌, ℕ, zero, suc, Bool, true, List, [], ◌∷◌, ◌++◌, length, map, filter, slice_get, Option, Some, None, refl, ap}
use Rattle.std.specs.Prelude.{option_to_list}
use Rattle.std.specs.List.{flat_map}
use Rattle.exi_names.specs.Datatypes.{Representation}
use Rattle.exi_gram.specs.Laws.{places_from}
use Rattle.exi_gram.specs.Orders.{in_order}
use Rattle.xsd_model.specs.declared.parts.AttributeUse.{AttributeUse}
use Rattle.xsd_model.specs.declared.parts.AttributeUse.TheVariants as usage
use Rattle.xsd_model.specs.declared.parts.TypeBody.{TypeBody}
use Rattle.xsd_model.specs.declared.parts.TypeBody.TheVariants as body
use Rattle.xsd_model.specs.declared.parts.TypeDef.{TypeDef}
use Rattle.xsd_model.specs.Parts.{Parts, base_in, bases_at, heads_at}
use Rattle.xsd_schema.specs.Words.{as_told}
use Rattle.xsd_schema.specs.Words.{body_seen, type_seen}
use Rattle.exi_inherited.specs.Bases.{complex_base, own_uses}
use Rattle.exi_inherited.specs.Contents.{Whole, based_on, content_of, content_within, derived_content, elements, no_content, own_content, value}
use Rattle.exi_inherited.specs.Uses.{group_uses, said_by, said_in, said_of, said_within, use_before, uses_left, uses_of}
use Rattle.exi_elements.specs.StandIns.{any_of, element_before, leads_to, stand_ins}
use Rattle.xsd_known.specs.Knowing.{body_told, parts_told, types_told}

-- the parts in which each type has a form of its own
abbrev pub told : Parts → Parts
told p = parts_told (as_told p)

abbrev pub told_type : List Representation → ℕ → TypeDef → TypeDef
told_type fs n t = record { name = t.name; base = t.base; body = body_told n (body_seen fs t.body); event = t.event }

abbrev pub told_types : List Representation → ℕ → List TypeDef → List TypeDef
told_types fs n ts = types_told n (map (type_seen fs) ts)

-- ---- of a type nothing but the place of its form is another
abbrev pub with_body : TypeDef → TypeBody → TypeDef
with_body t b = record { name = t.name; base = t.base; body = b; event = t.event }

-- does not look at that place
abbrev pub IsBlind : {X : Type 0} → (TypeDef → X) → Type 0
IsBlind f = (n m : ℕ) (union : Bool) (t : TypeDef) → f (with_body t (body.Simple n union)) ≡ f (with_body t (body.Simple m union))

pub same_type : {X : Type 0} (f : TypeDef → X) → IsBlind f → (fs : List Representation) (n : ℕ) (t : TypeDef) → f (told_type fs n t) ≡ f t
same_type f blind fs n t = by t.body
  where
    by : (b : TypeBody) → f (with_body t (body_told n (body_seen fs b))) ≡ f (with_body t b)
    by (body.Simple m union) = blind n m union t
    by (body.Complex c) = refl
    by body.Ur = refl

pub same_at : {X : Type 0} (f : Option TypeDef → X) → IsBlind (λ t. f (Some t)) → (fs : List Representation) (n : ℕ) (ts : List TypeDef) (i : ℕ) → f (slice_get (told_types fs n ts) i) ≡ f (slice_get ts i)
same_at f blind fs n [] i = refl
same_at f blind fs n (t ∷ ts) zero = same_type (λ x. f (Some x)) blind fs n t
same_at f blind fs n (t ∷ ts) (suc i) = same_at f blind fs (suc n) ts i

pub same_all : {X : Type 0} (f : TypeDef → List X) → IsBlind f → (fs : List Representation) (n : ℕ) (ts : List TypeDef) → flat_map f (told_types fs n ts) ≡ flat_map f ts
same_all f blind fs n [] = refl
same_all f blind fs n (t ∷ ts) = λ i. same_type f blind fs n t i ++ same_all f blind fs (suc n) ts i

pub same_length : (fs : List Representation) (n : ℕ) (ts : List TypeDef) → length (told_types fs n ts) ≡ length ts
same_length fs n [] = refl
same_length fs n (t ∷ ts) = ap suc (same_length fs (suc n) ts)

-- ---- what is looked at
abbrev pub base_seen : Option TypeDef → Option ℕ
base_seen None = None
base_seen (Some t) = by_body t.body
  where
    by_body : TypeBody → Option ℕ
    by_body (body.Simple form union) = None
    by_body (body.Complex complex) = t.base
    by_body body.Ur = None

abbrev pub uses_seen : Option TypeDef → List AttributeUse
uses_seen None = []
uses_seen (Some t) = by_body t.body
  where
    by_body : TypeBody → List AttributeUse
    by_body (body.Simple form union) = []
    by_body (body.Complex complex) = complex.uses
    by_body body.Ur = []

abbrev pub content_seen : ℕ → Whole → Option TypeDef → Whole
content_seen place base None = no_content
content_seen place base (Some t) = by_body t.body
  where
    by_body : TypeBody → Whole
    by_body (body.Simple form union) = value place
    by_body (body.Complex complex) = derived_content complex.derivation complex.content base
    by_body body.Ur = elements true [] true

module _ (p : Parts) where
  pub same_count : length (told p).types ≡ length p.types
  same_count = same_length p.forms 0 p.types

  pub same_in_type : {X : Type 0} (f : Option TypeDef → X) → IsBlind (λ t. f (Some t)) → (place : ℕ) → f (slice_get (told p).types place) ≡ f (slice_get p.types place)
  same_in_type f blind place = same_at f blind p.forms 0 p.types place

  pub same_bases : bases_at (told p) ≡ bases_at p
  same_bases = λ i place. same_in_type base_in (λ n m union t. refl) place i

  -- ---- contents
  pub same_complex_base : complex_base (told p) ≡ complex_base p
  same_complex_base = λ i place. same_in_type base_seen (λ n m union t. refl) place i

  pub same_own_content : own_content (told p) ≡ own_content p
  same_own_content = λ i place base. same_in_type (content_seen place base) (λ n m union t. refl) place i

  pub same_content_within : (n : ℕ) → content_within n (told p) ≡ content_within n p
  same_content_within zero = refl
  same_content_within (suc n) = λ i place. same_own_content i place (based_on (same_content_within n i) (same_complex_base i place))

  pub same_content : content_of (told p) ≡ content_of p
  same_content = λ i. same_content_within (suc (same_count i)) i

  -- ---- attributes
  pub same_own_uses : own_uses (told p) ≡ own_uses p
  same_own_uses = λ i place. same_in_type uses_seen (λ n m union t. refl) place i

  pub same_said_by : (n : ℕ) (u : AttributeUse) → said_by n (told p) u ≡ said_by n p u
  same_said_by zero (usage.Use attribute required) = refl
  same_said_by zero (usage.Prohibited name) = refl
  same_said_by zero (usage.Group group) = refl
  same_said_by (suc n) (usage.Use attribute required) = refl
  same_said_by (suc n) (usage.Prohibited name) = refl
  same_said_by (suc n) (usage.Group group) = λ i. flat_map (λ u. same_said_by n u i) (group_uses p group)

  pub same_said : said_of (told p) ≡ said_of p
  same_said = λ i u. same_said_by (suc (length p.attribute_groups)) u i

  pub same_said_within : (n : ℕ) → said_within n (told p) ≡ said_within n p
  same_said_within zero = refl
  same_said_within (suc n) = λ i place. flat_map (same_said_within n i) (option_to_list (same_complex_base i place)) ++ flat_map (same_said i) (same_own_uses i place)

  pub same_said_in : said_in (told p) ≡ said_in p
  same_said_in = λ i. same_said_within (suc (same_count i)) i

  pub same_uses : uses_of (told p) ≡ uses_of p
  same_uses = λ i place. in_order (use_before p) (uses_left (same_said_in i place))

  -- ---- elements
  pub same_leads : (n : ℕ) → leads_to n (told p) ≡ leads_to n p
  same_leads zero = refl
  same_leads (suc n) = λ i head place. (place == head) || any_of (same_leads n i head) (heads_at p place)

  pub same_stand_ins : stand_ins (told p) ≡ stand_ins p
  same_stand_ins = λ i head. in_order (element_before p) (filter (same_leads (suc (length p.elements)) i head) (places_from 0 p.elements))
