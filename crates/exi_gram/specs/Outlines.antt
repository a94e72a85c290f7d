-- A schema, as its grammars and entries by their places.
use Rattle.std.specs.Prelude.{ℕ, Bool, List}
use Rattle.exi_names.specs.Datatypes.{Representation, represented}
use Rattle.exi_names.specs.StartTables.{Names}
use Rattle.exi_names.specs.declared.datatype.Datatype.{Datatype}
use Rattle.exi_names.specs.declared.names.QName.{QName}
use Rattle.exi_gram.specs.declared.entry.ElementEntry.{ElementEntry}
use Rattle.exi_gram.specs.declared.entry.TypeEntry.{TypeEntry}
use Rattle.exi_gram.specs.Terminals.{Rules}

-- the global attribute that an entry is
abbrev pub attribute_of : QName × Datatype → QName × Representation
attribute_of entry = (entry.0, represented entry.1)

pub record Outline : Type 0 where
  -- whether there is a schema
  pub known : Bool
  pub grammars : List Rules
  -- the global elements
  pub globals : List ElementEntry
  -- the names of elements declared anywhere, each with the place of the grammar that opens it
  pub fragment : List (QName × ℕ)
  -- the global attributes
  pub attributes : List (QName × Representation)
  pub types : List TypeEntry
  -- the first string tables
  pub names : Names
