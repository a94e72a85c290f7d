use Rattle.std.proofs.Common.{refl}
use Rattle.exi_tables.proofs.Joined.{joined_first, starts_joined}
use Rattle.exi_tables.proofs.partitioned.PartitionedTables.start.Goals as goal

pub invariant_of-result : goal.invariant_of-result
invariant_of-result g c =
    starts_joined c.args.first c.new.result c.new-2.result c.new-3.result c.uris.ensures.start (rw c.uris.ensures.uris at c.new.ensures) c.new-2.ensures c.new-3.ensures

pub returns : goal.returns
returns g c =
    rw (joined_first c.args.first c.new.result c.new-2.result c.new-3.result c.uris.ensures.start (rw c.uris.ensures.uris at c.new.ensures) c.new-2.ensures c.new-3.ensures, c.new-4.ensures) refl
