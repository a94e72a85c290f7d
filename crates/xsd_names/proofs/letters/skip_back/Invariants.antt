use Rattle.std.proofs.Common.{◌≡◌, ◌≤◌, take, length}
use Rattle.exi_lexical.specs.Spaces.{without_back}
use Rattle.xsd_names.proofs.letters.skip_back.Given as goal

abbrev pub invariant-loop-end : goal.invariant-loop-end
invariant-loop-end l = record {
  within : l.end ≤ length l.fn.letters;
  same : without_back (take l.end l.fn.letters) ≡ without_back l.fn.letters;
}

abbrev pub decreases-loop-end : goal.decreases-loop-end
decreases-loop-end l = l.end
