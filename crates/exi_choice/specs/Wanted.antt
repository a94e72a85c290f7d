-- Which production a writer looks for, for an event: the first, by the number of parts in its code and then by the code, of
-- those for such events (EXI 1.0, sections 6.2 and 8.4).
use Rattle.std.specs.Prelude.{◌≡◌, ℕ, ◌==◌, ◌&&◌, Bool, true, false, List, Option, Some, None, if◌then◌else◌}
use Rattle.std.specs.Option.{is_some, option_map}
use Rattle.exi_builtin.specs.declared.learnable.Learnable.{Learnable}
use Rattle.exi_builtin.specs.declared.learnable.Learnable.TheVariants as learnable
use Rattle.exi_builtin.specs.LeastCodes.{first_code, is_it}
use Rattle.exi_builtin.specs.Learning.{Learning, productions, same_name}
use Rattle.exi_builtin.specs.declared.learnable.Room.{Room}
use Rattle.exi_gram.specs.Codes.{Coded, Productions, coded}
use Rattle.exi_gram.specs.Naming.{Entry}
use Rattle.exi_gram.specs.Outlines.{Outline}
use Rattle.exi_gram.specs.declared.options.Options.{Options}
use Rattle.exi_names.specs.declared.names.NameId.{NameId}
use Rattle.exi_names.specs.declared.names.QName.{QName}
use Rattle.exi_names.specs.Events.{Happening}
use Rattle.exi_names.specs.Events as event
use Rattle.exi_names.specs.StartTables.{IsStart}
use Rattle.exi_tables.specs.Partitions.{Partitions, least_place, locals, uris}
use Rattle.exi_processing.specs.Configurations.{Config, IsSetting, Setting, rules_of}
use Rattle.exi_processing.specs.Sound.{IsSound}
use Rattle.exi_processing.specs.Rules.{Rule, Telling, Terminal, attribute, built_in_terminal, characters, comment, declaration, document_type, element, end_document, end_element, entity, instruction, book_rule, known, self_contained, spelled, start_document, under}
use Rattle.exi_processing.specs.declared.rule.Content.{Content}
use Rattle.exi_processing.specs.declared.rule.Content.TheVariants as content
use Rattle.exi_processing.specs.declared.rule.Telling.{Telling as Told}
use Rattle.exi_processing.specs.declared.rule.Telling.TheVariants as told
use Rattle.exi_processing.specs.declared.rule.Valuing.TheVariants as valued
use Rattle.exi_writing.specs.OneEvent.{chosen, fewest, matches}
use Rattle.exi_choice.specs.Fitting.{Having, fit_in, nothing, of_attribute, of_characters}

-- ---- a name
-- what a code can tell of it: its least places, where it stands in the tables; that of its URI, where it alone stands
abbrev pub told_local : ℕ → Option ℕ → Told
told_local uri None = told.Under uri
told_local uri (Some local) = told.Known (record { uri = uri; local = local })

abbrev pub told_under : Partitions → Option ℕ → List ℕ → Told
told_under p None x = told.Spelled
told_under p (Some uri) x = told_local uri (least_place (locals p uri) x)

abbrev pub told_of : Partitions → QName → Told
told_of p n = told_under p (least_place (uris p) n.uri) n.local

abbrev pub place_told : Told → Option NameId
place_told told.Spelled = None
place_told (told.Under uri) = None
place_told (told.Known id) = Some id

-- ---- which production
-- the production stands for such an event; a name is one of these places
abbrev pub same_place : Told → NameId → Bool
same_place told.Spelled id = false
same_place (told.Under uri) id = false
same_place (told.Known own) id = same_name id own

abbrev pub same_uri : Told → ℕ → Bool
same_uri told.Spelled uri = false
same_uri (told.Under own) uri = own == uri
same_uri (told.Known own) uri = own.uri == uri

abbrev pub is_told : Told → Telling → Bool
is_told own spelled = true
is_told own (under uri) = same_uri own uri
is_told own (known id) = same_place own id

abbrev pub is_of : Content → Terminal → Bool
is_of content.StartDocument start_document = true
is_of content.EndDocument end_document = true
is_of (content.Element own) (element t) = is_told own t
is_of (content.Attribute own v) (attribute t w) = is_told own t
is_of content.Characters (characters d) = true
is_of content.EndElement end_element = true
is_of content.Declaration declaration = true
is_of content.SelfContained self_contained = true
is_of content.Comment comment = true
is_of content.Instruction instruction = true
is_of content.DocumentType document_type = true
is_of content.Entity entity = true
is_of wanted t = false

abbrev pub is_of_rule : Content → Rule → Bool
is_of_rule wanted r = is_of wanted r.on

-- the one with the fewest parts, and among these with the least code
abbrev pub first_for : Content → Productions Rule → Option (Coded Rule)
first_for wanted p = fewest (is_of_rule wanted) (coded p)

-- where it has a spelling of the event
abbrev pub picked : Setting → Config → Happening → Option (Coded Rule) → Option (Coded Rule)
picked g c e None = None
picked g c e (Some x) = if matches g c e x.item then Some x else None

-- ---- what is wanted for an event
pub record Seeking : Type 0 where
  pub on : Content
  pub having : Having

abbrev pub of_kind : Content → Seeking
of_kind on = record { on = on; having = nothing }

abbrev pub seeking : Partitions → Happening → Seeking
seeking p event.sd = of_kind content.StartDocument
seeking p event.ed = of_kind content.EndDocument
seeking p (event.se n) = of_kind (content.Element (told_of p n))
seeking p event.ee = of_kind content.EndElement
seeking p (event.at n v) = record { on = content.Attribute (told_of p n) valued.Untyped; having = of_attribute (place_told (told_of p n)) n v }
seeking p (event.ch v) = record { on = content.Characters; having = of_characters v }
seeking p (event.ns uri prefix own) = of_kind content.Declaration
seeking p (event.sc byte) = of_kind content.SelfContained
seeking p (event.cm x) = of_kind content.Comment
seeking p (event.pi target x) = of_kind content.Instruction
seeking p (event.dt name public system x) = of_kind content.DocumentType
seeking p (event.er name) = of_kind content.Entity

-- a production of its kind, which tells the name, and in which the value has a spelling
abbrev pub suits_by : Outline → Seeking → Rule → Bool
suits_by o s r = is_of s.on r.on && is_some (fit_in o r.on s.having)

abbrev pub suits : Setting → Seeking → Rule → Bool
suits g s r = suits_by g.schema s r

abbrev pub first_suiting : Setting → Seeking → Productions Rule → Option (Coded Rule)
first_suiting g s p = fewest (suits g s) (coded p)

-- the law: the production that is chosen for an event is the first of those that suit it, where all of the event has a
-- spelling there
abbrev pub ChosenSuits : Type 0
ChosenSuits = (g : Setting) (c : Config) (e : Happening) → IsSetting g → IsStart g.schema.names → IsSound g c → chosen g c e ≡ picked g c e (first_suiting g (seeking c.tables e) (rules_of g c))

-- ---- in a state of the book
abbrev pub suits_in : Outline → Seeking → Entry → Bool
suits_in o s e = suits_by o s (book_rule e)

-- ---- in a built-in state: the production for the event alone, where it may have one, before the one for its kind
abbrev pub named_one : Bool → Told → Option Learnable
named_one is_attribute told.Spelled = None
named_one is_attribute (told.Under uri) = None
named_one is_attribute (told.Known name) = Some (learnable.Known name is_attribute)

abbrev pub special : Content → Option Learnable
special (content.Element own) = named_one false own
special (content.Attribute own v) = named_one true own
special content.Characters = Some (learnable.Ch true)
special content.EndElement = Some (learnable.Ee true)
special wanted = None

-- what it stands for
abbrev pub special_terminal : Content → Option Terminal
special_terminal wanted = option_map built_in_terminal (special wanted)

-- the state does not have it
abbrev pub LacksSpecial : Options → Learning → Room → Content → Type 0
LacksSpecial o l room wanted = (production : Learnable) → special wanted ≡ Some production → first_code (is_it production) (coded (productions o l room)) ≡ None

abbrev pub general : Content → Option Learnable
general (content.Element own) = Some learnable.SeAny
general (content.Attribute own v) = Some learnable.AtAny
general content.Characters = Some (learnable.Ch false)
general content.EndElement = Some (learnable.Ee false)
general content.EndDocument = Some learnable.Ed
general content.Declaration = Some learnable.Ns
general content.SelfContained = Some learnable.Sc
general content.Entity = Some learnable.Er
general content.Comment = Some learnable.Cm
general content.Instruction = Some learnable.Pi
general content.StartDocument = None
general content.DocumentType = None
