use Rattle.std.proofs.Common.{◌≡◌, ◌+◌, drop}
use Rattle.exi_calendar.specs.Reading.{lead_width}
use Rattle.exi_calendar.proofs.read.lead_width.Given as goal

-- the bytes so far are digits
abbrev pub invariant-loop-place : goal.invariant-loop-place
invariant-loop-place l = l.place + lead_width (drop l.place l.text) ≡ lead_width l.text
