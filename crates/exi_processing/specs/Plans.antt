-- What each production does: what is asked first, what is charged, what is read, how it is spelled and refused, and what is
-- made of it (EXI 1.0, sections 8.4 and 8.5.4).
use Rattle.std.specs.Prelude.{ℕ, ◌/◌, Bool, true, false, List, [], ◌∷◌, Option, Some, None, if◌then◌else◌}
use Rattle.exi_bits.specs.declared.fault.Kind.{Kind}
use Rattle.exi_bits.specs.declared.fault.Kind.TheVariants as kind
use Rattle.exi_builtin.specs.declared.learnable.Learned.TheVariants as used
use Rattle.exi_gram.specs.Switches.{align_of}
use Rattle.exi_names.specs.Datatypes.{Representation}
use Rattle.exi_names.specs.declared.names.QName.{QName}
use Rattle.exi_names.specs.Events.{Happening}
use Rattle.exi_names.specs.Events as happening
use Rattle.exi_names.specs.Seen.{Value}
use Rattle.exi_typed.specs.ReadStates.{ContextReader}
use Rattle.exi_typed.specs.Laws.{Spelling}
use Rattle.exi_typed.specs.Refused.{Refusing, RefusesDeclaration}
use Rattle.exi_typed.specs.Spelled.{SpellsDeclaration}
use Rattle.exi_typed.specs.Strings.{Declaration, Named, declaration_at}
use Rattle.exi_processing.specs.Changes.{closed, effect_of, effected, innermost, learns, learns_name, moves, opened, opener, put_aside, resumed, rooted}
use Rattle.exi_processing.specs.Configurations.{Body, Config, Setting}
use Rattle.exi_processing.specs.Contents.{RefusesAttribute, RefusesCharacters, RefusesFourTexts, RefusesNothing, RefusesText, RefusesTold, RefusesTwoTexts, SpellsAttribute, SpellsCharacters, SpellsFourTexts, SpellsNothing, SpellsText, SpellsTold, SpellsTwoTexts, attribute_at, characters_at, four_texts_at, nothing_at, text_at, told_name_at, two_texts_at}
use Rattle.exi_gram.specs.Globals.{same_texts}
use Rattle.exi_processing.specs.Rules.{Rule, Telling, Terminal, Valuing, attribute, characters, comment, declaration, document_type, element, end_document, end_element, entity, instruction, self_contained, start_document}
use Rattle.exi_processing.specs.declared.frames.Element.{Element}
use Rattle.exi_processing.specs.declared.frames.Outer.{Outer}
use Rattle.exi_processing.specs.declared.frames.Outer.TheVariants as outer

-- what one event gives: the event, and the next configuration. A fragment's own SD, SE and ED give no event
abbrev pub Given : Type 0
Given = Option Happening × Config

-- what a production does, in this order
pub record Plan : Type 1 where
  -- a code that is refused as it stands
  pub barred : Option Kind
  -- one event is charged
  pub counted : Bool
  -- an event that is refused where it stands
  pub misplaced : Option Kind
  -- one level is entered
  pub entered : Bool
  -- what is read, how it is spelled, and how it is refused
  pub Item : Type 0
  pub read : ContextReader Item
  pub Spells : Spelling Item
  pub Refuses : Refusing
  -- the bits up to the next whole byte are left out
  pub padded : Bool
  -- what was read is refused
  pub refused : Item → Option Kind
  -- what is made of it, once reading came so far
  pub make : Item → Config → Given

-- ---- a fragment that stands for one element
-- where reading is in such a fragment, outside of its element: nowhere in one; at its start; where its element is to
-- come; behind its element
pub data Alone : Type 0 where
  nowhere : Alone
  at_start : Alone
  at_first : Alone
  at_end : Alone

abbrev pub outer_alone : Outer → Alone
outer_alone (outer.Book grammar number) = nowhere
outer_alone outer.FragmentStart = nowhere
outer_alone outer.FragmentContent = nowhere
outer_alone outer.AloneStart = at_start
outer_alone outer.AloneFirst = at_first
outer_alone outer.AloneOver = at_end
outer_alone outer.Ended = nowhere

abbrev pub alone_in : List Element → Outer → Alone
alone_in [] outer = outer_alone outer
alone_in (e ∷ es) outer = nowhere

-- SD, SE and ED of such a fragment are its own: they charge no event and give none
abbrev pub is_event : Alone → Bool
is_event nowhere = true
is_event at_start = false
is_event at_first = false
is_event at_end = false

abbrev pub seen_in : Alone → Happening → Option Happening
seen_in a e = if is_event a then Some e else None

-- behind the element all but ED is refused
abbrev pub barred_in : Alone → Option Kind
barred_in nowhere = None
barred_in at_start = None
barred_in at_first = None
barred_in at_end = Some kind.ScNotOne

-- and in its place all but an element, once it is read
abbrev pub no_element : Alone → Option Kind
no_element nowhere = None
no_element at_start = None
no_element at_first = Some kind.ScRoot
no_element at_end = None

-- an element is one of the name that was put aside; where reading began at the fragment it may have any name
abbrev pub other_element : List Body → QName → Option Kind
other_element [] name = None
other_element (b ∷ bs) name = if same_texts b.name name then None else Some kind.ScRoot

abbrev pub wrong_element : Alone → List Body → QName → Option Kind
wrong_element nowhere aside name = None
wrong_element at_start aside name = None
wrong_element at_first aside name = other_element aside name
wrong_element at_end aside name = None

abbrev pub rooted_in : Alone → QName → Config → Config
rooted_in nowhere name c = c
rooted_in at_start name c = c
rooted_in at_first name c = rooted name c
rooted_in at_end name c = c

abbrev pub ended_in : Alone → Config → Config
ended_in nowhere c = record c { outer = outer.Ended }
ended_in at_start c = resumed c.aside c
ended_in at_first c = resumed c.aside c
ended_in at_end c = resumed c.aside c

-- ---- the plans
-- an event that is read, and of which something is made
abbrev pub plain : Alone → (X : Type 0) → ContextReader X → Spelling X → Refusing → (X → Config → Given) → Plan
plain a X read Spells Refuses make = record { barred = barred_in a; counted = true; misplaced = None; entered = false; Item = X; read = read; Spells = Spells; Refuses = Refuses; padded = false; refused = λ x. no_element a; make = make }

abbrev pub start_plan : Alone → Rule → Plan
start_plan a r = record (plain a (Unit {0}) nothing_at SpellsNothing RefusesNothing (λ x c. (seen_in a happening.sd, moves r.to c))) { counted = is_event a }

abbrev pub end_plan : Alone → Plan
end_plan a = record (plain a (Unit {0}) nothing_at SpellsNothing RefusesNothing (λ x c. (seen_in a happening.ed, ended_in a c))) { barred = None; counted = is_event a; padded = if is_event a then false else true }

-- an element starts in its parent's state, which learns it where its name has bits of its own
abbrev pub element_made : Setting → Alone → Telling → Rule → Named → Config → Given
element_made g a t r name c = (seen_in a (happening.se name.name), opened name.id (opener g name.name r.inner) (moves r.to (learns_name t (used.Se name.id) (rooted_in a name.name c))))

abbrev pub element_plan : Setting → Alone → List Body → Telling → Rule → Plan
element_plan g a aside t r = record (plain a Named (told_name_at g t) (SpellsTold g t) (RefusesTold g t) (element_made g a t r)) { counted = is_event a; entered = is_event a; refused = λ name. wrong_element a aside name.name }

abbrev pub attribute_plan : Setting → Alone → Telling → Valuing → Rule → Plan
attribute_plan g a t v r = plain a (Named × Value) (attribute_at g t v) (SpellsAttribute g t v) (RefusesAttribute g t v) (λ x c. (Some (happening.at x.0.name x.1), effected (effect_of g v x.0.id x.1) r.to (learns_name t (used.At x.0.id) c)))

abbrev pub characters_plan : Setting → Alone → List Element → Representation → Rule → Plan
characters_plan g a es d r = plain a Value (characters_at g d (innermost es)) (SpellsCharacters g d (innermost es)) (RefusesCharacters g d (innermost es)) (λ x c. (Some (happening.ch x), moves r.to (learns used.Ch c)))

abbrev pub element_end_plan : Alone → Plan
element_end_plan a = plain a (Unit {0}) nothing_at SpellsNothing RefusesNothing (λ x c. (Some happening.ee, closed (learns used.Ee c)))

-- a declaration that tells the prefix of its element comes behind the element's event, which goes without it
abbrev pub declaration_plan : Setting → Alone → Rule → Plan
declaration_plan g a r = plain a Declaration (declaration_at (align_of g.options)) (SpellsDeclaration (align_of g.options)) (RefusesDeclaration (align_of g.options)) (λ d c. (Some (happening.ns d.uri d.prefix d.element), moves r.to c))

-- SC comes only directly behind SE. The fragment begins at the next whole byte
abbrev pub self_contained_plan : Setting → Alone → Bool → Plan
self_contained_plan g a after_start = record (plain a (Unit {0}) nothing_at SpellsNothing RefusesNothing (λ x c. (Some (happening.sc (c.place / 8)), put_aside g c))) { misplaced = if after_start then None else Some kind.ScPlace; padded = true }

abbrev pub comment_plan : Setting → Alone → Rule → Plan
comment_plan g a r = plain a (List ℕ) (text_at g) (SpellsText g) (RefusesText g) (λ x c. (Some (happening.cm x), moves r.to c))

abbrev pub instruction_plan : Setting → Alone → Rule → Plan
instruction_plan g a r = plain a (List ℕ × List ℕ) (two_texts_at g) (SpellsTwoTexts g) (RefusesTwoTexts g) (λ x c. (Some (happening.pi x.0 x.1), moves r.to c))

abbrev pub document_type_plan : Setting → Alone → Rule → Plan
document_type_plan g a r = plain a ((List ℕ × List ℕ) × (List ℕ × List ℕ)) (four_texts_at g) (SpellsFourTexts g) (RefusesFourTexts g) (λ x c. (Some (happening.dt x.0.0 x.0.1 x.1.0 x.1.1), moves r.to c))

abbrev pub entity_plan : Setting → Alone → Rule → Plan
entity_plan g a r = plain a (List ℕ) (text_at g) (SpellsText g) (RefusesText g) (λ x c. (Some (happening.er x), moves r.to c))

abbrev pub plan_on : Setting → Alone → Config → Rule → Terminal → Plan
plan_on g a c r start_document = start_plan a r
plan_on g a c r end_document = end_plan a
plan_on g a c r (element t) = element_plan g a c.aside t r
plan_on g a c r (attribute t v) = attribute_plan g a t v r
plan_on g a c r (characters d) = characters_plan g a c.elements d r
plan_on g a c r end_element = element_end_plan a
plan_on g a c r declaration = declaration_plan g a r
plan_on g a c r self_contained = self_contained_plan g a c.after_start
plan_on g a c r comment = comment_plan g a r
plan_on g a c r instruction = instruction_plan g a r
plan_on g a c r document_type = document_type_plan g a r
plan_on g a c r entity = entity_plan g a r

-- what a production does in a configuration
abbrev pub plan_of : Setting → Config → Rule → Plan
plan_of g c r = plan_on g (alone_in c.elements c.outer) c r r.on
