-- What reading a stream is: the header, and sequential processing of the body (EXI 1.0, sections 5 and 6).
use Rattle.std.specs.Prelude.{◌≡◌, ℕ, List, [], ◌++◌, Result, Ok, Err}
use Rattle.exi_bits.specs.declared.fault.Fault.{Fault}
use Rattle.exi_header.specs.declared.header.Header.{Header}
use Rattle.exi_meter.specs.Metering.{stream_bounds}
use Rattle.exi_names.specs.Events.{Happening}
use Rattle.xsd_file.specs.Bases.{Basis, header_by, job_by}
use Rattle.exi_processing.specs.Runs.{IsSequence, Job}
use Rattle.exi_processing.specs.declared.end.End.{End}
use Rattle.exi_processing.specs.declared.start.Start.TheVariants as start
use Rattle.exi_run.specs.declared.ending.Ending.{Ending}
use Rattle.exi_run.specs.declared.ending.Ending.TheVariants as ending
use Rattle.exi_run.specs.Endings.{ending_of}

-- sequential processing of a body within the limits of a stream, and what is told of its end
abbrev pub IsBody : Job → List Happening → Ending → Type 0
IsBody j es e = (last : End) × (count : ℕ) × IsSequence j start.Body stream_bounds es last count × (e ≡ ending_of last)

-- the events and the end, by the header: a fault in it is the end without events
abbrev pub IsWholeFrom : Basis → List ℕ → Result Header Fault → List Happening → Ending → Type 0
IsWholeFrom basis bytes (Ok h) es e = IsBody (job_by basis bytes h) es e
IsWholeFrom basis bytes (Err f) es e = (es ≡ []) × (e ≡ ending.Fault f)

-- what is known beside the stream counts where the header tells nothing else
abbrev pub IsWhole : Basis → List ℕ → List Happening → Ending → Type 0
IsWhole basis bytes es e = IsWholeFrom basis bytes (header_by basis bytes) es e

-- first events of the whole, some, all or none
abbrev pub IsFront : Basis → List ℕ → List Happening → Type 0
IsFront basis bytes es = (more : List Happening) × (e : Ending) × IsWhole basis bytes (es ++ more) e
