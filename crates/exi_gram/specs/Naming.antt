-- The least places in the first string tables (EXI 1.0, section 7.3 and appendix D) of what a production names.
use Rattle.std.specs.Prelude.{ℕ, Option, Some, None, List, [], get_or, position, bytes_eq}
use Rattle.exi_names.specs.StartTables.{Names}
use Rattle.exi_names.specs.declared.names.NameId.{NameId}
use Rattle.exi_names.specs.declared.names.QName.{QName}
use Rattle.exi_gram.specs.declared.grammar.Production.{Production}
use Rattle.exi_gram.specs.declared.named.Named.{Named}
use Rattle.exi_gram.specs.declared.named.Named.TheVariants as named
use Rattle.exi_gram.specs.Terminals.{Rule, Symbol, rule, sd, ed, se, se_in, se_any, at, at_in, at_any, at_text, at_any_text, xsi_type, xsi_nil, ch, ch_text, ee, ns, sc, er, cm, pi, dt}

-- the least place of a URI, and of a local name under a URI
abbrev pub uri_place : Names → List ℕ → Option ℕ
uri_place names uri = position (bytes_eq uri) names.uris

abbrev pub local_place : Names → ℕ → List ℕ → Option ℕ
local_place names uri local = position (bytes_eq local) (get_or names.locals uri [])

-- the least places of a name, where it stands in the tables
abbrev pair_place : ℕ → Option ℕ → Option NameId
pair_place uri None = None
pair_place uri (Some local) = Some (record { uri = uri; local = local })

abbrev place_under : Names → List ℕ → Option ℕ → Option NameId
place_under names local None = None
place_under names local (Some uri) = pair_place uri (local_place names uri local)

abbrev pub name_place : Names → QName → Option NameId
name_place names name = place_under names name.local (uri_place names name.uri)

abbrev named_name : Option NameId → Option Named
named_name None = None
named_name (Some id) = Some (named.Name id)

abbrev named_uri : Option ℕ → Option Named
named_uri None = None
named_uri (Some uri) = Some (named.Uri uri)

-- the least places of the name or URI that a terminal has, where it stands in the tables
abbrev pub named_in : Names → Symbol → Option Named
named_in names (se name) = named_name (name_place names name)
named_in names (at name representation) = named_name (name_place names name)
named_in names (at_text name) = named_name (name_place names name)
named_in names (se_in uri) = named_uri (uri_place names uri)
named_in names (at_in uri) = named_uri (uri_place names uri)
named_in names sd = Some named.Nothing
named_in names ed = Some named.Nothing
named_in names se_any = Some named.Nothing
named_in names at_any = Some named.Nothing
named_in names at_any_text = Some named.Nothing
named_in names xsi_type = Some named.Nothing
named_in names xsi_nil = Some named.Nothing
named_in names (ch representation) = Some named.Nothing
named_in names ch_text = Some named.Nothing
named_in names ee = Some named.Nothing
named_in names ns = Some named.Nothing
named_in names sc = Some named.Nothing
named_in names er = Some named.Nothing
named_in names cm = Some named.Nothing
named_in names pi = Some named.Nothing
named_in names dt = Some named.Nothing

-- a production with the least places of what it names
pub record Entry : Type 0 where
  pub rule : Rule
  pub named : Named

-- the production that a `Production` with such places is
abbrev pub entry : Production → Named → Entry
entry p named = record { rule = rule p; named = named }

abbrev named_or : Option Named → Named
named_or None = named.Nothing
named_or (Some places) = places

-- the production as the first tables place it; in a schema each name stands in them
abbrev pub entry_of : Names → Rule → Entry
entry_of names r = record { rule = r; named = named_or (named_in names r.on) }
