use Rattle.std.proofs.Common.{arith}
use Rattle.exi_builtin.proofs.Indexing.{index_taken}
use Rattle.exi_builtin.proofs.name_index.NameIndex.of.Goals as goal

pub loop-place-preserved : goal.loop-place-preserved
loop-place-preserved c =
    index_taken c.args.productions.now c.loop-place.place _ c.loop-place.index c.keep.new.self (omega (arith, c.loop-place-test.true)) c.in_ok-keep.ensures.ok c.loop-place.invariant
