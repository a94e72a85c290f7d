use Rattle.std.proofs.Common.{◌≡◌, filter, take}
use Rattle.xsd_wildcards.specs.Wildcards.{is_in}
use Rattle.xsd_wildcards.proofs.together.common.Given as goal

abbrev pub invariant-loop-uri : goal.invariant-loop-uri
invariant-loop-uri l = l.kept ≡ filter (is_in l.fn.others) (take l.uri-index l.fn.uris)
