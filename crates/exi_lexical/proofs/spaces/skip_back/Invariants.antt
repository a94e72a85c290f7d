use Rattle.std.proofs.Common.{◌≡◌, ◌≤◌, take, length}
use Rattle.std.specs.Str.{IsCharBoundary}
use Rattle.exi_lexical.specs.Spaces.{without_back}
use Rattle.exi_lexical.proofs.spaces.skip_back.Given as goal

abbrev pub invariant-loop-end : goal.invariant-loop-end
invariant-loop-end l = record {
  within : l.end ≤ length l.text;
  same : without_back (take l.end l.text) ≡ without_back l.text;
  whole : l.bytes ≡ l.text;
  boundary : IsCharBoundary l.text l.end;
}

abbrev pub decreases-loop-end : goal.decreases-loop-end
decreases-loop-end l = l.end
