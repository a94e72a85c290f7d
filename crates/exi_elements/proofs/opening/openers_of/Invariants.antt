use Rattle.std.proofs.Common.{◌≡◌, ℕ, ◌<◌, get_or, length, take}
use Rattle.exi_elements.specs.StandIns.{opener}
use Rattle.exi_elements.specs.Openings.{AreFirsts}
use Rattle.exi_elements.proofs.opening.openers_of.Given as goal

abbrev pub invariant-loop-place : goal.invariant-loop-place
invariant-loop-place l = record {
  firsts : AreFirsts l.firsts.entries (take l.place l.fn.parts.elements);
  count : length l.openers.items ≡ l.place;
  each : (i : ℕ) → i < l.place → get_or l.openers.items i 0 ≡ opener l.fn.parts i;
}
