use Rattle.std.proofs.Common.{◌-◌, length}
use Rattle.xsd_circles.specs.Searches.{shown}
use Rattle.xsd_circles.proofs.Searching.{IsSearchedTo}
use Rattle.xsd_circles.proofs.search.searched.Given as goal

abbrev pub invariant-loop-index : goal.invariant-loop-index
invariant-loop-index l = IsSearchedTo l.fn.steps l.fn.place l.index (shown l.search)

abbrev pub decreases-loop-index : goal.decreases-loop-index
decreases-loop-index l = length l.fn.steps - l.index
