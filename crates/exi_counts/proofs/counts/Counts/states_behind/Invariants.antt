use Rattle.std.proofs.Common.{◌≡◌, ◌+◌, map, take}
use Rattle.exi_counts.specs.Counts.{states_of, sum_of}
use Rattle.exi_counts.specs.Sizes.{few}
use Rattle.exi_counts.proofs.counts.Counts.states_behind.Given as goal

abbrev pub invariant-loop-particle : goal.invariant-loop-particle
invariant-loop-particle l = l.total ≡ few (l.fn.start + sum_of (map (states_of l.fn.self) (take l.particle-index l.fn.particles)))
