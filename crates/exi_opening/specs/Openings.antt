-- What a body goes by behind its header (EXI 1.0, sections 5.4 and 6).
use Rattle.std.specs.Prelude.{ℕ, List}
use Rattle.exi_gram.specs.Books.{book_states}
use Rattle.exi_gram.specs.Outlines.{Outline}
use Rattle.exi_gram.specs.Wholes.{without_schema}
use Rattle.exi_gram.specs.declared.options.Options.{Options}
use Rattle.exi_header.specs.declared.header.Header.{Header}
use Rattle.exi_processing.specs.Configurations.{Setting}
use Rattle.exi_processing.specs.Runs.{Job}

-- a schema under options, with the codes of all its states
abbrev pub setting_by : Outline → Options → Setting
setting_by s o = record { options = o; schema = s; states = book_states o s }

-- without a schema
abbrev pub setting_of : Options → Setting
setting_of o = setting_by without_schema o

-- the body begins behind the header
abbrev pub job_of : List ℕ → Header → Job
job_of bytes h = record { setting = setting_of h.options; bytes = bytes; body = h.body }
