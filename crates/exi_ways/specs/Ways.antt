-- Where the productions of a book lead (EXI 1.0, sections 8.4.1 and 8.5): to states, grammars and names that are there, so
-- that a reader which follows them never looks for what is missing.
use Rattle.std.specs.Prelude.{◌≡◌, ◌≢◌, ◌⊎◌, ℕ, ◌+◌, ◌<◌, true, Some, None, List, All, length}
use Rattle.exi_names.specs.Datatypes.{Representation}
use Rattle.exi_names.specs.StartTables.{Names}
use Rattle.exi_names.specs.declared.names.NameId.{NameId}
use Rattle.exi_names.specs.declared.names.QName.{QName}
use Rattle.exi_gram.specs.declared.named.Named.{Named}
use Rattle.exi_gram.specs.declared.named.Named.TheVariants as named
use Rattle.exi_gram.specs.declared.options.Options.{Options}
use Rattle.exi_gram.specs.Books.{Contents, IsStateOf, state_at, states_in}
use Rattle.exi_gram.specs.Codes.{Productions}
use Rattle.exi_gram.specs.Laws.{IsOneOf}
use Rattle.exi_gram.specs.Naming.{Entry, local_place, uri_place}
use Rattle.exi_gram.specs.Outlines.{Outline}
use Rattle.exi_gram.specs.Schemas.{IsFull, IsInner, Opens}
use Rattle.exi_gram.specs.Terminals.{Symbol, is_left, sd, ed, se, se_in, se_any, at, at_in, at_any, at_text, at_any_text, xsi_type, xsi_nil, ch, ch_text, ee, ns, sc, er, cm, pi, dt}

-- it holds of each production of a state
abbrev pub OfEach : {X : Type 0} → (X → Type 0) → Productions X → Type 0
OfEach {X} P p = (x : X) → IsOneOf p x → P x

-- ---- what a production names
-- the least places of a name in the first string tables (section 7.3 and appendix D)
pub record IsPlaced (names : Names) (name : QName) (place : NameId) : Type 0 where
  pub uri : uri_place names name.uri ≡ Some place.uri
  pub local : local_place names place.uri name.local ≡ Some place.local

-- what is told of a name, or of a URI: its least places
pub record TellsName (names : Names) (name : QName) (told : Named) : Type 0 where
  pub place : NameId
  pub told_is : told ≡ named.Name place
  pub placed : IsPlaced names name place

pub record TellsUri (names : Names) (uri : List ℕ) (told : Named) : Type 0 where
  pub place : ℕ
  pub told_is : told ≡ named.Uri place
  pub placed : uri_place names uri ≡ Some place

-- what is told with a terminal: the places of the name or URI that it has, and else nothing
abbrev pub Tells : Names → Symbol → Named → Type 0
Tells names (se name) told = TellsName names name told
Tells names (at name representation) told = TellsName names name told
Tells names (at_text name) told = TellsName names name told
Tells names (se_in uri) told = TellsUri names uri told
Tells names (at_in uri) told = TellsUri names uri told
Tells names sd told = told ≡ named.Nothing
Tells names ed told = told ≡ named.Nothing
Tells names se_any told = told ≡ named.Nothing
Tells names at_any told = told ≡ named.Nothing
Tells names at_any_text told = told ≡ named.Nothing
Tells names xsi_type told = told ≡ named.Nothing
Tells names xsi_nil told = told ≡ named.Nothing
Tells names (ch representation) told = told ≡ named.Nothing
Tells names ch_text told = told ≡ named.Nothing
Tells names ee told = told ≡ named.Nothing
Tells names ns told = told ≡ named.Nothing
Tells names sc told = told ≡ named.Nothing
Tells names er told = told ≡ named.Nothing
Tells names cm told = told ≡ named.Nothing
Tells names pi told = told ≡ named.Nothing
Tells names dt told = told ≡ named.Nothing

-- the same from the other side: a terminal that has a name, that has a URI alone, and that has neither
abbrev pub HasName : QName → Symbol → Type 0
HasName name on = (on ≡ se name) ⊎ ((representation : Representation) × (on ≡ at name representation)) ⊎ (on ≡ at_text name)

abbrev pub HasUri : List ℕ → Symbol → Type 0
HasUri uri on = (on ≡ se_in uri) ⊎ (on ≡ at_in uri)

abbrev pub HasNeither : Symbol → Type 0
HasNeither (se name) = ⊥
HasNeither (at name representation) = ⊥
HasNeither (at_text name) = ⊥
HasNeither (se_in uri) = ⊥
HasNeither (at_in uri) = ⊥
HasNeither sd = Unit {0}
HasNeither ed = Unit {0}
HasNeither se_any = Unit {0}
HasNeither at_any = Unit {0}
HasNeither at_any_text = Unit {0}
HasNeither xsi_type = Unit {0}
HasNeither xsi_nil = Unit {0}
HasNeither (ch representation) = Unit {0}
HasNeither ch_text = Unit {0}
HasNeither ee = Unit {0}
HasNeither ns = Unit {0}
HasNeither sc = Unit {0}
HasNeither er = Unit {0}
HasNeither cm = Unit {0}
HasNeither pi = Unit {0}
HasNeither dt = Unit {0}

-- a terminal by what is told with it
abbrev pub ToldOf : Names → Named → Symbol → Type 0
ToldOf names named.Nothing on = HasNeither on
ToldOf names (named.Uri place) on = (uri : List ℕ) × (uri_place names uri ≡ Some place) × HasUri uri on
ToldOf names (named.Name place) on = (name : QName) × IsPlaced names name place × HasName name on

-- ---- the grammars of elements and types
-- a production leads to a state of its own grammar; what it opens is the grammar of an element; and what it names stands
-- in the first string tables
pub record IsWayIn (b : Contents) (grammar : ℕ) (e : Entry) : Type 0 where
  pub no_start : e.rule.on ≢ sd
  pub no_end : e.rule.on ≢ ed
  pub to : IsStateOf b grammar e.rule.to
  pub inner : IsInner b.schema e.rule.inner
  pub opens : Opens e.rule
  pub told : Tells b.schema.names e.rule.on e.named
  pub named : ToldOf b.schema.names e.named e.rule.on

-- a grammar that opens an element, and its empty form, have a state to begin in; only a schema has any
pub record FormStands (b : Contents) (form : ℕ) : Type 0 where
  pub known : b.schema.known ≡ true
  pub full : IsStateOf b form 0
  pub empty : IsStateOf b (form + 1) 0

-- what is looked up by the name of an element or type is such a grammar
pub record EntriesStand (o : Outline) : Type 0 where
  pub globals : All (λ e. IsFull o e.full × (e.empty ≡ e.full + 1)) o.globals
  pub types : All (λ e. IsFull o e.full × (e.empty ≡ e.full + 1)) o.types
  pub fragment : All (λ e. IsFull o e.1) o.fragment

-- ---- the grammars of the whole
-- a production that names nothing and opens nothing leads to a state
pub record IsBare (state : ℕ) (e : Entry) : Type 0 where
  pub to : e.rule.to ≡ state
  pub inner : e.rule.inner ≡ None
  pub named : e.named ≡ named.Nothing

-- an element of a name opens its grammar
pub record IsOpening (o : Outline) (state : ℕ) (name : QName) (e : Entry) : Type 0 where
  pub to : e.rule.to ≡ state
  pub form : ℕ
  pub inner : e.rule.inner ≡ Some form
  pub full : IsFull o form
  pub told : TellsName o.names name e.named

-- SD alone, to the content
abbrev pub IsWholeStart : Symbol → Entry → Type 0
IsWholeStart sd e = IsBare 1 e
IsWholeStart ed e = ⊥
IsWholeStart (se name) e = ⊥
IsWholeStart (se_in uri) e = ⊥
IsWholeStart se_any e = ⊥
IsWholeStart (at name representation) e = ⊥
IsWholeStart (at_in uri) e = ⊥
IsWholeStart at_any e = ⊥
IsWholeStart (at_text name) e = ⊥
IsWholeStart at_any_text e = ⊥
IsWholeStart xsi_type e = ⊥
IsWholeStart xsi_nil e = ⊥
IsWholeStart (ch representation) e = ⊥
IsWholeStart ch_text e = ⊥
IsWholeStart ee e = ⊥
IsWholeStart ns e = ⊥
IsWholeStart sc e = ⊥
IsWholeStart er e = ⊥
IsWholeStart cm e = ⊥
IsWholeStart pi e = ⊥
IsWholeStart dt e = ⊥

-- DocContent: an element, to the end; DT, CM and PI stay
abbrev pub IsDocumentContent : Outline → Symbol → Entry → Type 0
IsDocumentContent o (se name) e = IsOpening o 2 name e
IsDocumentContent o se_any e = IsBare 2 e
IsDocumentContent o dt e = IsBare 1 e
IsDocumentContent o cm e = IsBare 1 e
IsDocumentContent o pi e = IsBare 1 e
IsDocumentContent o sd e = ⊥
IsDocumentContent o ed e = ⊥
IsDocumentContent o (se_in uri) e = ⊥
IsDocumentContent o (at name representation) e = ⊥
IsDocumentContent o (at_in uri) e = ⊥
IsDocumentContent o at_any e = ⊥
IsDocumentContent o (at_text name) e = ⊥
IsDocumentContent o at_any_text e = ⊥
IsDocumentContent o xsi_type e = ⊥
IsDocumentContent o xsi_nil e = ⊥
IsDocumentContent o (ch representation) e = ⊥
IsDocumentContent o ch_text e = ⊥
IsDocumentContent o ee e = ⊥
IsDocumentContent o ns e = ⊥
IsDocumentContent o sc e = ⊥
IsDocumentContent o er e = ⊥

-- DocEnd: ED, and CM and PI, which stay
abbrev pub IsDocumentEnd : Symbol → Entry → Type 0
IsDocumentEnd ed e = IsBare 2 e
IsDocumentEnd cm e = IsBare 2 e
IsDocumentEnd pi e = IsBare 2 e
IsDocumentEnd sd e = ⊥
IsDocumentEnd (se name) e = ⊥
IsDocumentEnd (se_in uri) e = ⊥
IsDocumentEnd se_any e = ⊥
IsDocumentEnd (at name representation) e = ⊥
IsDocumentEnd (at_in uri) e = ⊥
IsDocumentEnd at_any e = ⊥
IsDocumentEnd (at_text name) e = ⊥
IsDocumentEnd at_any_text e = ⊥
IsDocumentEnd xsi_type e = ⊥
IsDocumentEnd xsi_nil e = ⊥
IsDocumentEnd (ch representation) e = ⊥
IsDocumentEnd ch_text e = ⊥
IsDocumentEnd ee e = ⊥
IsDocumentEnd ns e = ⊥
IsDocumentEnd sc e = ⊥
IsDocumentEnd er e = ⊥
IsDocumentEnd dt e = ⊥

-- FragmentContent: elements, ED, CM and PI, which all stay
abbrev pub IsFragmentContent : Outline → Symbol → Entry → Type 0
IsFragmentContent o (se name) e = IsOpening o 1 name e
IsFragmentContent o se_any e = IsBare 1 e
IsFragmentContent o ed e = IsBare 1 e
IsFragmentContent o cm e = IsBare 1 e
IsFragmentContent o pi e = IsBare 1 e
IsFragmentContent o sd e = ⊥
IsFragmentContent o (se_in uri) e = ⊥
IsFragmentContent o (at name representation) e = ⊥
IsFragmentContent o (at_in uri) e = ⊥
IsFragmentContent o at_any e = ⊥
IsFragmentContent o (at_text name) e = ⊥
IsFragmentContent o at_any_text e = ⊥
IsFragmentContent o xsi_type e = ⊥
IsFragmentContent o xsi_nil e = ⊥
IsFragmentContent o (ch representation) e = ⊥
IsFragmentContent o ch_text e = ⊥
IsFragmentContent o ee e = ⊥
IsFragmentContent o ns e = ⊥
IsFragmentContent o sc e = ⊥
IsFragmentContent o er e = ⊥
IsFragmentContent o dt e = ⊥

-- the Document grammar of a book: three states
pub record IsDocumentOf (b : Contents) : Type 0 where
  pub there : 0 < length b.states
  pub count : length (states_in b 0) ≡ 3
  pub start : OfEach (λ e. IsWholeStart e.rule.on e) (state_at b 0 0)
  pub content : OfEach (λ e. IsDocumentContent b.schema e.rule.on e) (state_at b 0 1)
  pub end : OfEach (λ e. IsDocumentEnd e.rule.on e) (state_at b 0 2)

-- the Fragment grammar of a book that has a schema: two states
pub record IsFragmentOf (b : Contents) : Type 0 where
  pub there : 1 < length b.states
  pub count : length (states_in b 1) ≡ 2
  pub start : OfEach (λ e. IsWholeStart e.rule.on e) (state_at b 1 0)
  pub content : OfEach (λ e. IsFragmentContent b.schema e.rule.on e) (state_at b 1 1)

-- ---- the options
-- the options leave the production
abbrev pub IsLeft : Options → Entry → Type 0
IsLeft o e = is_left o e.rule.on ≡ true
