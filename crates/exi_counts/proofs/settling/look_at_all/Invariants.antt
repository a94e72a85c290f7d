use Rattle.std.proofs.Common.{◌≡◌, ℕ, ◌<◌, ◌≤◌, true, false}
use Rattle.exi_counts.specs.Sizes.{AreSizes, is_due, unknown}
use Rattle.exi_counts.proofs.settling.look_at_all.Given as goal

abbrev pub invariant-loop-place : goal.invariant-loop-place
invariant-loop-place l = record {
  sizes : AreSizes l.fn.elements l.sizes.items;
  fewer : unknown l.sizes.items ≤ unknown l.fn.sizes.items;
  more : l.some ≡ true → unknown l.sizes.items < unknown l.fn.sizes.items;
  settled : l.some ≡ false → (place : ℕ) → place < l.place → is_due l.fn.elements l.sizes.items place ≡ false;
}
