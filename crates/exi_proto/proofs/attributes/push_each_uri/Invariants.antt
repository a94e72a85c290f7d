use Rattle.std.proofs.Common.{◌≡◌, ◌++◌, drop, map}
use Rattle.exi_gram.specs.Terminals.{step_rule}
use Rattle.exi_proto.specs.Attributes.{each_uri_at}
use Rattle.exi_proto.proofs.attributes.push_each_uri.Given as goal

abbrev pub invariant-loop-uri : goal.invariant-loop-uri
invariant-loop-uri l = map step_rule l.steps ++ each_uri_at l.fn.to (drop l.uri-index l.fn.uris) ≡ map step_rule l.fn.steps ++ each_uri_at l.fn.to l.fn.uris
