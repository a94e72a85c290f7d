use Rattle.std.proofs.Common.{◌≡◌, false, take, drop}
use Rattle.std.specs.Str.{IsAscii}
use Rattle.exi_evtext.specs.Reading.{content_at}
use Rattle.exi_evtext.specs.Parsing.{front}
use Rattle.exi_evtext.proofs.cursor.plain_width.Given as goal

-- the bytes so far are ASCII that stands for itself
abbrev pub invariant-loop-place : goal.invariant-loop-place
invariant-loop-place l = IsAscii (take l.place l.bytes) × (front (take l.place l.bytes) (content_at false (drop l.place l.bytes)) ≡ content_at false l.bytes)
