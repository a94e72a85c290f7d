-- The least code of a production in a state (EXI 1.0, section 6.2), and which productions read an event.
use Rattle.std.specs.Prelude.{◌≡◌, ◌⊎◌, ℕ, suc, ◌&&◌, Bool, true, false, not, Option, Some, None, List, [], ◌∷◌, slice_get, if◌then◌else◌}
use mathlib.Core.Bool.{beq}
use Rattle.std.specs.Option.{option_map}
use Rattle.exi_names.specs.declared.names.NameId.{NameId}
use Rattle.exi_names.specs.NameMaps.{same_name}
use Rattle.exi_gram.specs.Codes.{Coded, Productions, coded}
use Rattle.exi_builtin.specs.declared.learnable.Learnable.{Learnable}
use Rattle.exi_builtin.specs.declared.learnable.Learnable.TheVariants as learnable
use Rattle.exi_builtin.specs.declared.event_kind.EventKind.{EventKind}
use Rattle.exi_builtin.specs.declared.event_kind.EventKind.TheVariants as event

-- ---- the same production
abbrev pub is_named : NameId → Bool → Learnable → Bool
is_named name attribute (learnable.Known other a) = same_name other name && beq a attribute
is_named name attribute other = false

abbrev is_any_element : Learnable → Bool
is_any_element learnable.SeAny = true
is_any_element other = false

abbrev is_any_attribute : Learnable → Bool
is_any_attribute learnable.AtAny = true
is_any_attribute other = false

abbrev pub is_ch : Bool → Learnable → Bool
is_ch one_part (learnable.Ch other) = beq other one_part
is_ch one_part other = false

abbrev pub is_ee : Bool → Learnable → Bool
is_ee one_part (learnable.Ee other) = beq other one_part
is_ee one_part other = false

abbrev is_ed : Learnable → Bool
is_ed learnable.Ed = true
is_ed other = false

abbrev is_ns : Learnable → Bool
is_ns learnable.Ns = true
is_ns other = false

abbrev is_sc : Learnable → Bool
is_sc learnable.Sc = true
is_sc other = false

abbrev is_er : Learnable → Bool
is_er learnable.Er = true
is_er other = false

abbrev is_cm : Learnable → Bool
is_cm learnable.Cm = true
is_cm other = false

abbrev is_pi : Learnable → Bool
is_pi learnable.Pi = true
is_pi other = false

abbrev pub is_it : Learnable → Learnable → Bool
is_it (learnable.Known name attribute) x = is_named name attribute x
is_it learnable.SeAny x = is_any_element x
is_it learnable.AtAny x = is_any_attribute x
is_it (learnable.Ch one_part) x = is_ch one_part x
is_it (learnable.Ee one_part) x = is_ee one_part x
is_it learnable.Ed x = is_ed x
is_it learnable.Ns x = is_ns x
is_it learnable.Sc x = is_sc x
is_it learnable.Er x = is_er x
is_it learnable.Cm x = is_cm x
is_it learnable.Pi x = is_pi x

-- ---- the first of them
-- the place of the first that passes
abbrev pub first_place : {X : Type 0} → (X → Bool) → List X → Option ℕ
first_place test [] = None
first_place test (x ∷ xs) = if test x then Some 0 else option_map suc (first_place test xs)

-- the code of the first that passes, of productions in the order of their codes
abbrev pub first_code : {X : Type 0} → (X → Bool) → List (Coded X) → Option (List ℕ)
first_code test [] = None
first_code test (c ∷ cs) = if test c.item then Some c.parts else first_code test cs

-- the parts are those of a production's code
pub record IsCodeOf {X : Type 0} (p : Productions X) (parts : List ℕ) : Type 0 where
  pub place : ℕ
  pub item : X
  pub there : slice_get (coded p) place ≡ Some (record { parts = parts; item = item })

-- ---- what reads an event
-- the production for the event alone, where it may have one: it was learned, or has a code of one part
abbrev pub special : EventKind → Learnable
special (event.Element name) = learnable.Known name false
special (event.Attribute name) = learnable.Known name true
special event.Characters = learnable.Ch true
special event.EndElement = learnable.Ee true
special event.EndDocument = learnable.Ed
special event.Namespace = learnable.Ns
special event.SelfContained = learnable.Sc
special event.Entity = learnable.Er
special event.Comment = learnable.Cm
special event.Instruction = learnable.Pi

-- the one for all events of its kind
abbrev pub general : EventKind → Learnable
general (event.Element name) = learnable.SeAny
general (event.Attribute name) = learnable.AtAny
general event.Characters = learnable.Ch false
general event.EndElement = learnable.Ee false
general event.EndDocument = learnable.Ed
general event.Namespace = learnable.Ns
general event.SelfContained = learnable.Sc
general event.Entity = learnable.Er
general event.Comment = learnable.Cm
general event.Instruction = learnable.Pi

-- whether a production reads an event of a kind (sections 8.4.2 and 8.4.3): one of its name, or any
abbrev pub reads : EventKind → Learnable → Bool
reads (event.Element name) (learnable.Known other attribute) = same_name other name && not attribute
reads (event.Element name) x = is_any_element x
reads (event.Attribute name) (learnable.Known other attribute) = same_name other name && attribute
reads (event.Attribute name) x = is_any_attribute x
reads event.Characters (learnable.Ch one_part) = true
reads event.Characters x = false
reads event.EndElement (learnable.Ee one_part) = true
reads event.EndElement x = false
reads event.EndDocument x = is_ed x
reads event.Namespace x = is_ns x
reads event.SelfContained x = is_sc x
reads event.Entity x = is_er x
reads event.Comment x = is_cm x
reads event.Instruction x = is_pi x

-- what reads an event is one of its two productions, and a production that is another is the same
abbrev pub ReadsAreTwo : Type 0
ReadsAreTwo = (k : EventKind) (x : Learnable) → reads k x ≡ true → (x ≡ special k) ⊎ (x ≡ general k)

abbrev pub TwoAreRead : Type 0
TwoAreRead = (k : EventKind) → (reads k (special k) ≡ true) × (reads k (general k) ≡ true)

abbrev pub ItIsSame : Type 0
ItIsSame = (x y : Learnable) → is_it x y ≡ true → y ≡ x
