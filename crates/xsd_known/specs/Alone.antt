-- The types of XML Schema alone, which an empty schemaId stands for (EXI 1.0, section 5.4): what a schema document makes known
-- that declares nothing.
use Rattle.std.specs.Prelude.{List, [], ◌∷◌, None, Result, Ok, Err, codes}
use Rattle.exi_gram.specs.Outlines.{Outline}
use Rattle.exi_gram.specs.Wholes.{without_schema}
use Rattle.exi_names.specs.Events.{Happening, sd, se, ee, ed}
use Rattle.exi_names.specs.declared.names.QName.{QName}
use Rattle.xsd_model.specs.declared.fault.SchemaFault.{SchemaFault}
use Rattle.xsd_schema.specs.Words.{xsd}
use Rattle.xsd_known.specs.Knowing.{Known, known_of}

-- the document: its root, and nothing in it
abbrev pub root_name : QName
root_name = record { uri = xsd; local = codes "schema"; prefix = None }

abbrev pub bare_document : List Happening
bare_document = sd ∷ se root_name ∷ ee ∷ ed ∷ []

-- its grammars; that it has none does not come
abbrev pub grammars_of : Result Known SchemaFault → Outline
grammars_of (Ok k) = k.schema
grammars_of (Err fault) = without_schema

unfoldable pub types_alone : Outline
types_alone = grammars_of (known_of bare_document)
