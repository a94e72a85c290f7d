use Rattle.std.proofs.Common.{◌≡◌, ◌<◌, None, length, map, take}
use Rattle.std.specs.Prelude.{IfSome, fold}
use Rattle.exi_gram.specs.Tables.{coded_of}
use Rattle.exi_candidates.specs.Order.{first_in}
use Rattle.exi_candidates.proofs.next.next_of.Given as goal

abbrev pub invariant-loop-key : goal.invariant-loop-key
invariant-loop-key l = record {
  best : l.best ≡ fold (first_in (map coded_of l.coded) l.floor) None (take l.key-index l.keys);
  there : IfSome l.best (λ p. p < length l.coded);
}
