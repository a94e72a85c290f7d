use Rattle.std.proofs.Common.{◌≡◌, filter, take}
use Rattle.xsd_wildcards.specs.Wildcards.{is_kept}
use Rattle.xsd_wildcards.proofs.together.others_of.Given as goal

abbrev pub invariant-loop-uri : goal.invariant-loop-uri
invariant-loop-uri l = l.kept ≡ filter (is_kept l.fn.own) (take l.uri-index l.fn.uris)
