use Rattle.std.proofs.Common.{◌≡◌, drop}
use Rattle.std.specs.List.{list_any}
use Rattle.std.specs.Str.{bytes_eq}
use Rattle.xsd_wildcards.specs.Wildcards.{is_in}
use Rattle.xsd_wildcards.proofs.words.is_in.Given as goal

abbrev pub invariant-loop-one : goal.invariant-loop-one
invariant-loop-one l = list_any (bytes_eq l.fn.text) (drop l.one-index l.fn.texts) ≡ is_in l.fn.texts l.fn.text
