-- What holds of each configuration that reading reaches, so that no definition of one event meets a case that is there
-- only to make it whole: a place without a text, a grammar or a state without a number, characters without an element, a
-- fragment's end with nothing put aside.
use Rattle.std.specs.Prelude.{◌≡◌, ◌≢◌, ◌⊎◌, ◌≤◌, ℕ, zero, suc, ◌+◌, ◌-◌, Bool, true, false, List, [], ◌∷◌, length, Option, Some, None, All, Ok, slice_get, if◌then◌else◌}
use Rattle.exi_bits.specs.Bits.{Spot}
use Rattle.exi_builtin.specs.declared.learnable.Learnable.{Learnable}
use Rattle.exi_builtin.specs.declared.learnable.Learnable.TheVariants as learnable
use Rattle.exi_builtin.specs.declared.learnable.Room.TheVariants as room
use Rattle.exi_builtin.specs.declared.element_grammar.ElementGrammar.{ElementGrammar}
use Rattle.exi_builtin.specs.Learning.{Learning}
use Rattle.exi_gram.specs.Books.{IsStateOf}
use Rattle.exi_gram.specs.Codes.{code_at}
use Rattle.exi_gram.specs.Schemas.{IsFull, IsInner}
use Rattle.exi_gram.specs.Switches.{align_of}
use Rattle.exi_meter.specs.Metering.{Bounds}
use Rattle.exi_names.specs.declared.names.NameId.{NameId}
use Rattle.exi_names.specs.Events.{Happening}
use Rattle.exi_names.specs.StartTables.{IsStart}
use Rattle.exi_tables.specs.Growth.{IsLeast, KeepsAll}
use Rattle.exi_tables.specs.Partitions.{Partitions, locals, uris}
use Rattle.exi_processing.specs.Changes.{has_level, is_alone}
use Rattle.exi_processing.specs.Configurations.{Body, Config, IsSetting, Setting, first_tables, rules_of, spot_in}
use Rattle.exi_processing.specs.OneEvent.{one}
use Rattle.exi_processing.specs.Rules.{Rule, Telling, Terminal, attribute, characters, comment, declaration, document_type, element, end_document, end_element, entity, instruction, known, self_contained, spelled, start_document, under}
use Rattle.exi_processing.specs.Runs.{Job, Leads, first}
use Rattle.exi_processing.specs.declared.frames.Element.{Element}
use Rattle.exi_processing.specs.declared.frames.Outer.{Outer}
use Rattle.exi_processing.specs.declared.frames.Outer.TheVariants as outer
use Rattle.exi_processing.specs.declared.frames.State.{State}
use Rattle.exi_processing.specs.declared.frames.State.TheVariants as state
use Rattle.exi_processing.specs.declared.start.Start.{Start}

-- the places of a name stand, and they are the least places of its texts
pub record IsLeastName (p : Partitions) (name : NameId) : Type 0 where
  pub uri : List ℕ
  pub local : List ℕ
  pub least_uri : IsLeast (uris p) uri name.uri
  pub least_local : IsLeast (locals p name.uri) local name.local

-- ---- what was learned
-- an element's states learned elements and attributes of such names, and CH and EE with a code of one part
abbrev pub IsOfNames : Partitions → Learnable → Type 0
IsOfNames p (learnable.Known name is_attribute) = IsLeastName p name
IsOfNames p (learnable.Ch one_part) = one_part ≡ true
IsOfNames p (learnable.Ee one_part) = one_part ≡ true
IsOfNames p learnable.SeAny = ⊥
IsOfNames p learnable.AtAny = ⊥
IsOfNames p learnable.Ed = ⊥
IsOfNames p learnable.Ns = ⊥
IsOfNames p learnable.Sc = ⊥
IsOfNames p learnable.Er = ⊥
IsOfNames p learnable.Cm = ⊥
IsOfNames p learnable.Pi = ⊥

-- a fragment's content has learned elements alone
abbrev pub IsElementOfName : Partitions → Learnable → Type 0
IsElementOfName p (learnable.Known name false) = IsLeastName p name
IsElementOfName p (learnable.Known name true) = ⊥
IsElementOfName p (learnable.Ch one_part) = ⊥
IsElementOfName p (learnable.Ee one_part) = ⊥
IsElementOfName p learnable.SeAny = ⊥
IsElementOfName p learnable.AtAny = ⊥
IsElementOfName p learnable.Ed = ⊥
IsElementOfName p learnable.Ns = ⊥
IsElementOfName p learnable.Sc = ⊥
IsElementOfName p learnable.Er = ⊥
IsElementOfName p learnable.Cm = ⊥
IsElementOfName p learnable.Pi = ⊥

pub record IsSoundGrammar (p : Partitions) (g : ElementGrammar) : Type 0 where
  pub name : IsLeastName p g.name
  pub start_tag : All (IsOfNames p) g.start_tag
  pub content : All (IsOfNames p) g.content

pub record IsSoundLearning (p : Partitions) (l : Learning) : Type 0 where
  pub grammars : All (IsSoundGrammar p) l.grammars
  pub fragment : All (IsElementOfName p) l.fragment

-- ---- open elements
-- the number tells the grammar of the name
pub record HasGrammar (l : Learning) (number : ℕ) (name : NameId) : Type 0 where
  pub grammar : ElementGrammar
  pub stands : slice_get l.grammars number ≡ Some grammar
  pub same : grammar.name ≡ name

-- a state of a grammar of the schema, which is past Document and Fragment; behind a full form stands its empty form
pub record IsInForm (g : Setting) (grammar number : ℕ) (empty : Bool) : Type 0 where
  pub known : g.schema.known ≡ true
  pub past : 2 ≤ grammar
  pub there : IsStateOf g grammar number
  pub full : empty ≡ false → IsFull g.schema grammar

-- a state of the built-in grammar of the name, or of a grammar of the schema
abbrev pub IsStateOfName : Setting → Learning → NameId → State → Type 0
IsStateOfName g l name (state.BuiltIn (room.StartTag number)) = HasGrammar l number name
IsStateOfName g l name (state.BuiltIn (room.Content number)) = HasGrammar l number name
IsStateOfName g l name (state.BuiltIn room.Fragment) = ⊥
IsStateOfName g l name (state.Informed grammar number empty) = IsInForm g grammar number empty

pub record IsSoundElement (g : Setting) (p : Partitions) (l : Learning) (e : Element) : Type 0 where
  pub name : IsLeastName p e.name
  pub state : IsStateOfName g l e.name e.state

-- in Document an element may be open where its end is to come, and in Fragment in the content
abbrev pub IsBookOpen : ℕ → ℕ → Type 0
IsBookOpen zero number = number ≡ 2
IsBookOpen (suc grammar) number = (grammar ≡ 0) × (number ≡ 1)

-- an element may be open there: the document's, a fragment's, or the one that a fragment stands for
abbrev pub IsWhereOpen : Outer → Type 0
IsWhereOpen (outer.Book grammar number) = IsBookOpen grammar number
IsWhereOpen outer.FragmentStart = ⊥
IsWhereOpen outer.FragmentContent = Unit {0}
IsWhereOpen outer.AloneStart = ⊥
IsWhereOpen outer.AloneFirst = ⊥
IsWhereOpen outer.AloneOver = Unit {0}
IsWhereOpen outer.Ended = ⊥

-- a state of Document is the start, the content or the end; one of a schema's Fragment the start or the content
abbrev pub IsBookOuter : Setting → ℕ → ℕ → Type 0
IsBookOuter g zero number = (number ≡ 0) ⊎ (number ≡ 1) ⊎ (number ≡ 2)
IsBookOuter g (suc grammar) number = (grammar ≡ 0) × (g.schema.known ≡ true) × ((number ≡ 0) ⊎ (number ≡ 1))

-- without a schema the built-in Fragment grammar stands in its place
abbrev pub IsOuter : Setting → Outer → Type 0
IsOuter g (outer.Book grammar number) = IsBookOuter g grammar number
IsOuter g outer.FragmentStart = g.schema.known ≡ false
IsOuter g outer.FragmentContent = g.schema.known ≡ false
IsOuter g outer.AloneStart = Unit {0}
IsOuter g outer.AloneFirst = Unit {0}
IsOuter g outer.AloneOver = Unit {0}
IsOuter g outer.Ended = Unit {0}

-- what is sound of a body: each place of the first tables keeps its text
pub record IsSoundBody (g : Setting) (p : Partitions) (l : Learning) (es : List Element) (o : Outer) : Type 0 where
  pub kept : KeepsAll (first_tables g) p
  pub learned : IsSoundLearning p l
  pub elements : All (IsSoundElement g p l) es
  pub outside : es ≢ [] → IsWhereOpen o
  pub outer_is : IsOuter g o

-- and of one that is put aside: its innermost element is open and has its level
pub record IsSoundAside (g : Setting) (b : Body) : Type 0 where
  pub body : IsSoundBody g b.tables b.learned b.elements b.outer
  pub level : has_level b.elements b.outer ≡ true

-- ---- levels: one for each open element but the one that a fragment stands for
abbrev pub levels_in : List Element → Outer → ℕ
levels_in es o = if is_alone o then length es - 1 else length es

abbrev pub levels_aside : List Body → ℕ
levels_aside [] = 0
levels_aside (b ∷ bs) = levels_in b.elements b.outer + levels_aside bs

pub record IsSound (g : Setting) (c : Config) : Type 0 where
  pub body : IsSoundBody g c.tables c.learned c.elements c.outer
  pub level : c.meter.level ≡ levels_in c.elements c.outer + levels_aside c.aside
  -- an SE was given last only where an element is open that has entered a level
  pub after_start : c.after_start ≡ true → has_level c.elements c.outer ≡ true
  pub aside : All (IsSoundAside g) c.aside

-- ---- the laws
-- the first configuration is sound
abbrev pub FirstIsSound : Type 0
FirstIsSound = (j : Job) (start : Start) (limits : Bounds) → IsStart j.setting.schema.names → IsSound j.setting (first j start limits)

-- and a step leads from one that is sound to one that is
abbrev pub StepsKeepSound : Type 0
StepsKeepSound = (g : Setting) (bytes : List ℕ) (c next : Config) (e : Option Happening) → IsSetting g → IsStart g.schema.names → IsSound g c → one g bytes c ≡ Ok (e, next) → IsSound g next

-- so each configuration that turns lead to from the first is sound
abbrev pub ReachedAreSound : Type 0
ReachedAreSound = (j : Job) (start : Start) (limits : Bounds) (turns : List (Option Happening)) (reached : Config) → IsSetting j.setting → IsStart j.setting.schema.names → Leads j.setting j.bytes (first j start limits) turns reached → IsSound j.setting reached

-- ---- what a code tells in a sound configuration
-- a name or a URI that it tells stands
abbrev pub FitsTelling : Partitions → Telling → Type 0
FitsTelling p spelled = Unit {0}
FitsTelling p (under uri) = (text : List ℕ) × IsLeast (uris p) text uri
FitsTelling p (known name) = IsLeastName p name

-- of the grammar of a schema, the state that follows exists
abbrev pub LeadsInForm : Setting → State → ℕ → Type 0
LeadsInForm g (state.BuiltIn r) to = Unit {0}
LeadsInForm g (state.Informed grammar number empty) to = IsStateOf g grammar to

-- where an element is open: neither SD nor ED, nor DT in a built-in grammar, and of a name only one that stands
abbrev pub HasType : State → Type 0
HasType (state.BuiltIn r) = ⊥
HasType (state.Informed grammar number empty) = Unit {0}

abbrev pub FitsInside : Partitions → State → Terminal → Type 0
FitsInside p s start_document = ⊥
FitsInside p s end_document = ⊥
FitsInside p s document_type = HasType s
FitsInside p s (element t) = FitsTelling p t
FitsInside p s (attribute t v) = FitsTelling p t
FitsInside p s (characters d) = Unit {0}
FitsInside p s end_element = Unit {0}
FitsInside p s declaration = Unit {0}
FitsInside p s self_contained = Unit {0}
FitsInside p s comment = Unit {0}
FitsInside p s instruction = Unit {0}
FitsInside p s entity = Unit {0}

-- in a state of the Document grammar (8.4.1, 8.5.1): SD in the start, which leads to the content; an element in the content,
-- which leads to the end; ED in the end; comments and instructions in both, which stay, and DT in the content
abbrev pub FitsDocument : Partitions → ℕ → Terminal → ℕ → Type 0
FitsDocument p number start_document to = (number ≡ 0) × (to ≡ 1)
FitsDocument p number end_document to = number ≡ 2
FitsDocument p number (element t) to = (number ≡ 1) × (to ≡ 2) × FitsTelling p t
FitsDocument p number (attribute t v) to = ⊥
FitsDocument p number (characters d) to = ⊥
FitsDocument p number end_element to = ⊥
FitsDocument p number declaration to = ⊥
FitsDocument p number self_contained to = ⊥
FitsDocument p number comment to = to ≡ number
FitsDocument p number instruction to = to ≡ number
FitsDocument p number document_type to = to ≡ number
FitsDocument p number entity to = ⊥

-- in a fragment's content (8.4.2, 8.5.2): elements, ED, comments and instructions, and all stay
abbrev pub FitsContent : Partitions → Terminal → ℕ → Type 0
FitsContent p start_document to = ⊥
FitsContent p end_document to = Unit {0}
FitsContent p (element t) to = (to ≡ 1) × FitsTelling p t
FitsContent p (attribute t v) to = ⊥
FitsContent p (characters d) to = ⊥
FitsContent p end_element to = ⊥
FitsContent p declaration to = ⊥
FitsContent p self_contained to = ⊥
FitsContent p comment to = to ≡ 1
FitsContent p instruction to = to ≡ 1
FitsContent p document_type to = ⊥
FitsContent p entity to = ⊥

-- in a fragment's start: SD, which leads to the content
abbrev pub FitsStart : Terminal → ℕ → Type 0
FitsStart start_document to = to ≡ 1
FitsStart end_document to = ⊥
FitsStart (element t) to = ⊥
FitsStart (attribute t v) to = ⊥
FitsStart (characters d) to = ⊥
FitsStart end_element to = ⊥
FitsStart declaration to = ⊥
FitsStart self_contained to = ⊥
FitsStart comment to = ⊥
FitsStart instruction to = ⊥
FitsStart document_type to = ⊥
FitsStart entity to = ⊥

-- in a state of a schema's Fragment grammar
abbrev pub FitsFragment : Partitions → ℕ → Terminal → ℕ → Type 0
FitsFragment p zero t to = FitsStart t to
FitsFragment p (suc number) t to = FitsContent p t to

abbrev pub FitsBook : Partitions → ℕ → ℕ → Terminal → ℕ → Type 0
FitsBook p zero number t to = FitsDocument p number t to
FitsBook p (suc grammar) number t to = FitsFragment p number t to

abbrev pub FitsOutside : Partitions → Outer → Terminal → ℕ → Type 0
FitsOutside p (outer.Book grammar number) t to = FitsBook p grammar number t to
FitsOutside p outer.FragmentStart t to = FitsStart t to
FitsOutside p outer.FragmentContent t to = FitsContent p t to
FitsOutside p outer.AloneStart t to = FitsStart t to
FitsOutside p outer.AloneFirst t to = FitsContent p t to
FitsOutside p outer.AloneOver t to = FitsContent p t to
FitsOutside p outer.Ended t to = ⊥

abbrev pub FitsIn : Setting → Partitions → Outer → List Element → Terminal → ℕ → Type 0
FitsIn g p o [] t to = FitsOutside p o t to
FitsIn g p o (e ∷ es) t to = FitsInside p e.state t × LeadsInForm g e.state to

-- what a code tells fits the state, and opens a full form of the schema, if any
abbrev pub CodesFit : Type 0
CodesFit = (g : Setting) (bytes : List ℕ) (c : Config) (r : Rule) (s : Spot) → IsSetting g → IsStart g.schema.names → IsSound g c → code_at (align_of g.options) (rules_of g c) (spot_in bytes c) ≡ Ok (r, s) → FitsIn g c.tables c.outer c.elements r.on r.to × IsInner g.schema r.inner
