-- How the reading of a stream ends: its line, and the status behind it.
use Rattle.std.specs.Prelude.{ℕ, List, [], ◌∷◌, ◌++◌, codes, decimal}
use Rattle.exi_bits.specs.declared.fault.Kind.{Kind}
use Rattle.exi_bits.specs.declared.fault.Kind.TheVariants as kind
use Rattle.exi_bits.specs.Words.{kind_word, part_word}
use Rattle.exi_processing.specs.declared.end.End.{End}
use Rattle.exi_processing.specs.declared.end.End.TheVariants as end
use Rattle.exi_run.specs.declared.ending.Ending.{Ending}
use Rattle.exi_run.specs.declared.ending.Ending.TheVariants as ending
use Rattle.exi_run.specs.declared.status.Status.{Status}
use Rattle.exi_run.specs.declared.status.Status.TheVariants as status

-- what is told of the end of a sequence: the bit, or the fault
abbrev pub ending_of : End → Ending
ending_of (end.Done bit tally root) = ending.Done bit
ending_of (end.Fault f tally root) = ending.Fault f

abbrev pub status_of : Ending → Status
status_of (ending.Done bit) = status.Ok
status_of (ending.Fault f) = status.Fault

abbrev pub part_words : Kind → List ℕ
part_words (kind.Unsupported p) = 32 ∷ part_word p
part_words kind.NoExi = []
part_words kind.Version = []
part_words kind.Conflict = []
part_words kind.WrongSchema = []
part_words kind.Short = []
part_words kind.TooWide = []
part_words kind.BadFloat = []
part_words kind.BadChar = []
part_words kind.BadMoment = []
part_words kind.BadPlace = []
part_words kind.ListTooLong = []
part_words kind.NoCode = []
part_words kind.BadType = []
part_words kind.ScPlace = []
part_words kind.ScRoot = []
part_words kind.ScNotOne = []
part_words kind.EventLimit = []
part_words kind.TextLimit = []
part_words kind.DepthLimit = []
part_words kind.TrailingBytes = []

abbrev pub kind_words : Kind → List ℕ
kind_words k = kind_word k ++ part_words k

-- `done` or `fault` and its kind, and the bit, counted from the first of the file
unfoldable pub last_line : Ending → List ℕ
last_line (ending.Done bit) = codes "done " ++ decimal bit ++ 10 ∷ []
last_line (ending.Fault f) = codes "fault " ++ kind_words f.kind ++ 32 ∷ decimal f.bit ++ 10 ∷ []
