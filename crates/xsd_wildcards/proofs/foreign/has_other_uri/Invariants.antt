use Rattle.std.proofs.Common.{◌≡◌, drop}
use Rattle.std.specs.List.{list_any}
use Rattle.std.specs.Str.{chars}
use Rattle.xsd_wildcards.specs.Wildcards.{is_other_uri}
use Rattle.xsd_wildcards.proofs.foreign.has_other_uri.Given as goal

abbrev pub invariant-loop-word : goal.invariant-loop-word
invariant-loop-word l = list_any (is_other_uri (chars l.fn.own)) (drop l.word-index l.fn.words) ≡ list_any (is_other_uri (chars l.fn.own)) l.fn.words
