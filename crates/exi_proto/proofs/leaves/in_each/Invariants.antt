use Rattle.std.proofs.Common.{◌≡◌, ◌+◌, ◌++◌, drop, map}
use Rattle.exi_gram.specs.Terminals.{step_rule}
use Rattle.exi_proto.specs.Places.{in_each_at}
use Rattle.exi_proto.proofs.leaves.in_each.Given as goal

abbrev pub invariant-loop-uri : goal.invariant-loop-uri
invariant-loop-uri l =
    (l.place ≡ l.fn.before + l.uri-index)
    × (map step_rule l.steps ++ in_each_at l.fn.to l.place (drop l.uri-index l.fn.uris) ≡ in_each_at l.fn.to l.fn.before l.fn.uris)
