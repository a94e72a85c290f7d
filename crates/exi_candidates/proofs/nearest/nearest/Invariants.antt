use Rattle.std.proofs.Common.{◌≡◌, ◌<◌, length, map, take}
use Rattle.std.specs.Prelude.{IfSome, fold}
use Rattle.exi_gram.specs.Tables.{coded_of}
use Rattle.exi_candidates.specs.Order.{nearer, rank_in}
use Rattle.exi_candidates.proofs.nearest.nearest.Given as goal

abbrev pub invariant-loop-place : goal.invariant-loop-place
invariant-loop-place l = record {
  found : l.found ≡ fold (nearer (rank_in (map coded_of l.coded)) l.floor) l.fn.best (take l.place-index l.places);
  there : IfSome l.found (λ p. p < length l.coded);
}
