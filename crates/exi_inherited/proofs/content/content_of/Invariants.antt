use Rattle.std.proofs.Common.{◌≡◌, length}
use Rattle.exi_inherited.specs.Contents.{content_of}
use Rattle.exi_inherited.specs.Shown.{built_on, whole_of}
use Rattle.exi_inherited.proofs.content.content_of.Given as goal

abbrev pub invariant-loop-place : goal.invariant-loop-place
invariant-loop-place l = built_on l.fn.parts l.bases.items (whole_of l.whole) ≡ content_of l.fn.parts l.fn.of

abbrev pub decreases-loop-place : goal.decreases-loop-place
decreases-loop-place l = length l.bases.items
