-- What a worker posts: what came of a fragment, on a tape.
use Rattle.std.specs.Prelude.{ℕ, List}
use Rattle.exi_board.specs.declared.board.Board.{Board}
use Rattle.exi_board.specs.Seats.{note_of}
use Rattle.exi_meter.specs.Metering.{Bounds, bounds_of}
use Rattle.exi_processing.specs.Reading.{job_of}
use Rattle.exi_processing.specs.Runs.{Job}
use Rattle.exi_processing.specs.Splices.{IsFragmentOutcome}
use Rattle.exi_tape.specs.Lists.{events_of, pages_of}
use Rattle.exi_worker.specs.declared.limits.TheConstants.{WORKER_EVENTS, WORKER_TEXT, WORKER_DEPTH}
use Rattle.exi_worker.specs.declared.note.JobNote.{JobNote}
use Rattle.exi_worker.specs.declared.posting.Posting.{Posting}

-- the limits of a worker: 1,048,576 events, 4,194,304 units of text, 512 open elements
abbrev pub worker_bounds : Bounds
worker_bounds = bounds_of WORKER_EVENTS WORKER_TEXT WORKER_DEPTH

-- the posting has the events and the end of the fragment that begins at this byte, read by itself under these limits
abbrev pub IsPosting : Job → ℕ → Bounds → Posting → Type 0
IsPosting j byte limits p = IsFragmentOutcome j byte limits (events_of p.tape) p.end

-- the same, under some limits
abbrev pub IsPostingAt : Job → ℕ → Posting → Type 0
IsPostingAt j byte p = (limits : Bounds) × IsPosting j byte limits p

-- the pages that a posting carries
abbrev pub pages_in : Posting → List ℕ
pages_in p = pages_of p.tape

-- the job of which a board's postings are outcomes
abbrev pub board_job : Board Posting JobNote → Job
board_job b = job_of (note_of b).job
