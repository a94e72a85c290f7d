use Rattle.std.proofs.Common.{◌≡◌}
use Rattle.exi_names.specs.Datatypes.{represented}
use Rattle.exi_proto.specs.Lists.{list_of}
use Rattle.exi_proto.proofs.datatypes.list_of.Given as goal

abbrev pub invariant-loop-level : goal.invariant-loop-level
invariant-loop-level l = represented l.datatype ≡ list_of l._level (represented l.fn.item)
