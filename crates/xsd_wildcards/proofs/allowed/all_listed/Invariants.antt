use Rattle.std.proofs.Common.{◌≡◌, [], drop}
use Rattle.std.specs.Str.{chars}
use Rattle.xsd_wildcards.specs.Wildcards.{listed_onto}
use Rattle.xsd_wildcards.proofs.allowed.all_listed.Given as goal

abbrev pub invariant-loop-word : goal.invariant-loop-word
invariant-loop-word l = listed_onto (chars l.fn.own) l.uris (drop l.word-index l.fn.words) ≡ listed_onto (chars l.fn.own) [] l.fn.words
