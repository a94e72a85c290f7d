-- Which schema a stream goes by, and by what it is read (EXI 1.0, section 5.4).
use Rattle.std.specs.Prelude.{ℕ, List, Option, Some, None, Result, if◌then◌else◌}
use Rattle.exi_bits.specs.declared.fault.Fault.{Fault}
use Rattle.exi_gram.specs.Outlines.{Outline}
use Rattle.exi_gram.specs.Wholes.{without_schema}
use Rattle.exi_gram.specs.declared.options.Options.{Options}
use Rattle.exi_gram.specs.declared.options.SchemaWord.{SchemaWord}
use Rattle.exi_gram.specs.declared.options.SchemaWord.TheVariants as schema
use Rattle.exi_header.specs.declared.header.Header.{Header}
use Rattle.exi_processing.specs.Runs.{Job}
use Rattle.exi_opening.specs.Header.{is_empty_name, stream_header}
use Rattle.exi_opening.specs.Openings.{setting_by}
use Rattle.xsd_known.specs.Alone.{types_alone}

-- what is known beside a stream, of how it is read
pub record Basis : Type 0 where
  -- the options, where its header tells none
  pub options : Options
  -- the schema, if there is one
  pub schema : Option Outline
  -- the name by which a stream may name it, if it has one
  pub name : Option (List ℕ)

-- no schema
abbrev pub plain_basis : Options → Basis
plain_basis o = record { options = o; schema = None; name = None }

abbrev pub if_any : Option Outline → Outline
if_any None = without_schema
if_any (Some s) = s

-- which schema a body goes by: the one that is known, if there is one, unless the header says that there is none, or names the
-- types of XML Schema alone
abbrev pub chosen : Option Outline → SchemaWord → Outline
chosen known schema.Absent = if_any known
chosen known schema.Nil = without_schema
chosen known (schema.Id name) = if is_empty_name name then types_alone else if_any known

abbrev pub header_by : Basis → List ℕ → Result Header Fault
header_by b bytes = stream_header b.name b.options bytes

abbrev pub job_by : Basis → List ℕ → Header → Job
job_by b bytes h = record { setting = setting_by (chosen b.schema h.options.schema) h.options; bytes = bytes; body = h.body }
