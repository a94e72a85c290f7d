use Rattle.std.proofs.Common.{◌≡◌, drop}
use Rattle.std.specs.Str.{IsCharBoundary}
use Rattle.exi_lexical.specs.Spaces.{without_front}
use Rattle.exi_lexical.proofs.spaces.skip_front.Given as goal

abbrev pub invariant-loop-index : goal.invariant-loop-index
invariant-loop-index l = record {
  same : without_front (drop l.index l.bytes) ≡ without_front l.text;
  whole : l.bytes ≡ l.text;
  boundary : IsCharBoundary l.text l.index;
}
