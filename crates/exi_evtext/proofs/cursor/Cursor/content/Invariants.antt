use Rattle.std.proofs.Common.{◌≡◌, length, false}
use Rattle.exi_evtext.specs.Reading.{content_at}
use Rattle.exi_evtext.specs.Parsing.{front}
use Rattle.exi_evtext.proofs.cursor.Cursor.content.Given as goal

-- what was gathered stands in front of what is still to be read
abbrev pub invariant-loop-content : goal.invariant-loop-content
invariant-loop-content l = front l.content.items (content_at false l.self) ≡ content_at false l.fn.self

abbrev pub decreases-loop-content : goal.decreases-loop-content
decreases-loop-content l = length l.self
