-- The three laws of each kind of name and string.
use Rattle.std.proofs.Common.{ℕ, Bool, List, Option}
use Rattle.exi_bits.specs.declared.align.Align.{Align}
use Rattle.exi_names.specs.declared.names.NameId.{NameId}
use Rattle.exi_typed.specs.NameValues.{SpellsNameValue, name_value_at}
use Rattle.exi_typed.specs.Spelled.{SpellsDeclaration, SpellsKnown, SpellsLiteral, SpellsLocal, SpellsName, SpellsUri, SpellsValue}
use Rattle.exi_typed.specs.Strings.{Growth, declaration_at, known_at, literal_at, local_at, name_at, uri_at, value_at}
use Rattle.exi_typed.proofs.ContextItems.{Agrees, agrees}
use Rattle.exi_typed.proofs.Texts.{item_literal, item_local, item_uri, item_value}
use Rattle.exi_typed.proofs.NameItems.{item_declaration, item_known, item_name, item_name_value}

pub literals_agree : (a : Align) (grow : Growth) → Agrees a (SpellsLiteral a grow) (literal_at a grow)
literals_agree a grow = agrees a (SpellsLiteral a grow) (literal_at a grow) (item_literal a grow)

pub uris_agree : (a : Align) → Agrees a (SpellsUri a) (uri_at a)
uris_agree a = agrees a (SpellsUri a) (uri_at a) (item_uri a)

pub locals_agree : (a : Align) (uri : ℕ) → Agrees a (SpellsLocal a uri) (local_at a uri)
locals_agree a uri = agrees a (SpellsLocal a uri) (local_at a uri) (item_local a uri)

pub names_agree : (keep : Bool) (a : Align) → Agrees a (SpellsName keep a) (name_at keep a)
names_agree keep a = agrees a (SpellsName keep a) (name_at keep a) (item_name keep a)

pub known_names_agree : (keep : Bool) (a : Align) (id : NameId) → Agrees a (SpellsKnown keep a id) (known_at keep a id)
known_names_agree keep a id = agrees a (SpellsKnown keep a id) (known_at keep a id) (item_known keep a id)

pub name_values_agree : (keep : Bool) (a : Align) → Agrees a (SpellsNameValue keep a) (name_value_at keep a)
name_values_agree keep a = agrees a (SpellsNameValue keep a) (name_value_at keep a) (item_name_value keep a)

pub declarations_agree : (a : Align) → Agrees a (SpellsDeclaration a) (declaration_at a)
declarations_agree a = agrees a (SpellsDeclaration a) (declaration_at a) (item_declaration a)

pub values_agree : (set : Option (List ℕ)) (a : Align) (name : NameId) → Agrees a (SpellsValue set a name) (value_at set a name)
values_agree set a name = agrees a (SpellsValue set a name) (value_at set a name) (item_value set a name)
