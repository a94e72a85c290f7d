use Rattle.std.proofs.Common.{◌≡◌, ◌≤◌, ◌<◌, ◌++◌, drop, length, ◌-◌}
use Rattle.std.specs.Prelude.{slice_range, string_bytes}
use Rattle.std.specs.List.{flat_map}
use Rattle.std.specs.Str.{IsCharBoundary}
use Rattle.exi_evtext.specs.Lines.{escaped}
use Rattle.exi_evtext.specs.Kept.{Keeps}
use Rattle.exi_evtext.proofs.quote.push_runs.Given as goal

abbrev pub invariant-loop-place : goal.invariant-loop-place
invariant-loop-place l = record {
  behind : l.start ≤ l.place;
  within : l.place ≤ length l.bytes;
  boundary : 0 < l.start → IsCharBoundary l.text l.start;
  plain : flat_map escaped (slice_range l.bytes l.start l.place) ≡ slice_range l.bytes l.start l.place;
  done : string_bytes l.out ++ flat_map escaped (drop l.start l.bytes) ≡ string_bytes l.fn.out ++ flat_map escaped l.bytes;
  kept : Keeps (string_bytes l.fn.out) (string_bytes l.out);
}

abbrev pub decreases-loop-place : goal.decreases-loop-place
decreases-loop-place l = length l.bytes - l.place
