use Rattle.std.proofs.Common.{◌≡◌, ◌≤◌, ◌*◌, length}
use Rattle.xsd_simple.specs.Kept.{AreBuilt, AreEntries, simples}
use Rattle.xsd_simple.proofs.known.built_ins.Given as goal

abbrev pub invariant-loop-place : goal.invariant-loop-place
invariant-loop-place l = record {
  kept : AreEntries l.forms l.entries.items;
  built : AreBuilt l.place (simples l.forms l.entries.items);
  count : length l.entries.items ≡ l.place;
  few : length l.forms ≤ 2 * l.place;
}
