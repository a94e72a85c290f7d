use Rattle.std.proofs.Common.{refl}
use Rattle.exi_tables.proofs.Joined.{joined_first, starts_joined}
use Rattle.exi_tables.proofs.partitioned.PartitionedTables.restart.Goals as goal

pub invariant_of-self : goal.invariant_of-self
invariant_of-self g c =
    starts_joined c.args.first c.clear.new.self c.clear-2.new.self c.clear-3.new.self c.uris.ensures.start (rw c.uris.ensures.uris at c.clear.ensures) c.clear-2.ensures c.clear-3.ensures

pub returns : goal.returns
returns g c =
    rw (joined_first c.args.first c.clear.new.self c.clear-2.new.self c.clear-3.new.self c.uris.ensures.start (rw c.uris.ensures.uris at c.clear.ensures) c.clear-2.ensures c.clear-3.ensures, c.restart.ensures) refl
