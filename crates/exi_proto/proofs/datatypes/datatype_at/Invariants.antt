use Rattle.std.proofs.Common.{◌≡◌, ◌≤◌, ◌+◌, get_or}
use Rattle.exi_names.specs.Datatypes.{text}
use Rattle.xsd_model.specs.Parts.{representations}
use Rattle.exi_proto.specs.Lists.{list_of}
use Rattle.exi_proto.proofs.datatypes.datatype_at.Given as goal

abbrev pub invariant-loop-alloc : goal.invariant-loop-alloc
invariant-loop-alloc l =
    (l.depth + l.at ≤ l.fn.place)
    × (list_of l.depth (get_or (representations l.fn.forms) l.at text) ≡ get_or (representations l.fn.forms) l.fn.place text)

abbrev pub decreases-loop-alloc : goal.decreases-loop-alloc
decreases-loop-alloc l = l.at
