-- The productions of a state as rules: what is read, the state that follows, and the grammar of an element that it
-- opens (EXI 1.0, sections 8.4 and 8.5.4).
use Rattle.std.specs.Prelude.{ℕ, Bool, true, false, Option, None}
use Rattle.exi_builtin.specs.declared.learnable.Learnable.{Learnable}
use Rattle.exi_builtin.specs.declared.learnable.Learnable.TheVariants as learnable
use Rattle.exi_builtin.specs.BuiltIn.{BuiltInRule}
use Rattle.exi_gram.specs.Codes.{Productions, mapped}
use Rattle.exi_gram.specs.Terminals.{Symbol}
use Rattle.exi_gram.specs.Terminals as symbol
use Rattle.exi_gram.specs.Naming.{Entry}
use Rattle.exi_gram.specs.Wholes.{whole_start}
use Rattle.exi_gram.specs.declared.named.Named.{Named as Places}
use Rattle.exi_gram.specs.declared.named.Named.TheVariants as places
use Rattle.exi_names.specs.Datatypes.{Representation}
use Rattle.exi_names.specs.Datatypes as datatype
use Rattle.exi_names.specs.declared.names.NameId.{NameId}

-- how a name is told: in bits of its own; its local name alone in bits of its own, under a URI that the event's code told;
-- or by the code
pub data Telling : Type 0 where
  spelled : Telling
  under : ℕ → Telling
  known : NameId → Telling

-- what the value of an attribute is
pub data Valuing : Type 0 where
  -- in a built-in grammar: a name where it is xsi:type, and else a string, xsi:nil's too (own)
  untyped : Valuing
  -- of this datatype
  typed : Representation → Valuing
  -- by its name: xsi:type and xsi:nil have theirs, a global attribute has its datatype, and any other a string
  by_name : Valuing

-- what a production reads
pub data Terminal : Type 0 where
  start_document : Terminal
  end_document : Terminal
  element : Telling → Terminal
  attribute : Telling → Valuing → Terminal
  characters : Representation → Terminal
  end_element : Terminal
  declaration : Terminal
  self_contained : Terminal
  comment : Terminal
  instruction : Terminal
  document_type : Terminal
  entity : Terminal

pub record Rule : Type 0 where
  pub on : Terminal
  -- the state of the same grammar that follows. EE and ED lead to none
  pub to : ℕ
  -- the grammar that an element opens, where its production tells one
  pub inner : Option ℕ

-- the places of xsi:type and xsi:nil in the first string tables (appendix D)
abbrev pub type_name : NameId
type_name = record { uri = 2; local = 1 }

abbrev pub nil_name : NameId
nil_name = record { uri = 2; local = 0 }

-- ---- built-in grammars (8.4.2, 8.4.3). What an element of a known name opens is the grammar of that name
abbrev pub named_terminal : NameId → Bool → Terminal
named_terminal name true = attribute (known name) untyped
named_terminal name false = element (known name)

abbrev pub built_in_terminal : Learnable → Terminal
built_in_terminal (learnable.Known name is_attribute) = named_terminal name is_attribute
built_in_terminal learnable.SeAny = element spelled
built_in_terminal learnable.AtAny = attribute spelled untyped
built_in_terminal (learnable.Ch one_part) = characters datatype.text
built_in_terminal (learnable.Ee one_part) = end_element
built_in_terminal learnable.Ed = end_document
built_in_terminal learnable.Ns = declaration
built_in_terminal learnable.Sc = self_contained
built_in_terminal learnable.Er = entity
built_in_terminal learnable.Cm = comment
built_in_terminal learnable.Pi = instruction

abbrev pub built_in_rule : BuiltInRule → Rule
built_in_rule r = record { on = built_in_terminal r.on; to = r.to; inner = None }

-- ---- grammars of the book: what a production names stands at these places
abbrev pub telling_in : Places → Telling
telling_in places.Nothing = spelled
telling_in (places.Uri uri) = under uri
telling_in (places.Name name) = known name

abbrev pub terminal_of : Places → Symbol → Terminal
terminal_of n symbol.sd = start_document
terminal_of n symbol.ed = end_document
terminal_of n (symbol.se name) = element (telling_in n)
terminal_of n (symbol.se_in uri) = element (telling_in n)
terminal_of n symbol.se_any = element (telling_in n)
terminal_of n (symbol.at name representation) = attribute (telling_in n) (typed representation)
terminal_of n (symbol.at_in uri) = attribute (telling_in n) by_name
terminal_of n symbol.at_any = attribute (telling_in n) by_name
terminal_of n (symbol.at_text name) = attribute (telling_in n) (typed datatype.text)
terminal_of n symbol.at_any_text = attribute (telling_in n) (typed datatype.text)
terminal_of n symbol.xsi_type = attribute (known type_name) by_name
terminal_of n symbol.xsi_nil = attribute (known nil_name) by_name
terminal_of n (symbol.ch representation) = characters representation
terminal_of n symbol.ch_text = characters datatype.text
terminal_of n symbol.ee = end_element
terminal_of n symbol.ns = declaration
terminal_of n symbol.sc = self_contained
terminal_of n symbol.er = entity
terminal_of n symbol.cm = comment
terminal_of n symbol.pi = instruction
terminal_of n symbol.dt = document_type

abbrev pub rule_of : Places → symbol.Rule → Rule
rule_of n r = record { on = terminal_of n r.on; to = r.to; inner = r.inner }

-- a production of a book
abbrev pub book_rule : Entry → Rule
book_rule e = rule_of e.named e.rule

-- the start of a fragment (8.4.2)
abbrev pub fragment_start : Productions Rule
fragment_start = mapped (rule_of places.Nothing) whole_start
