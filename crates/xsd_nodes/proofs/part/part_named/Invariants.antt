use Rattle.std.proofs.Common.{◌≡◌, drop}
use Rattle.xsd_nodes.specs.PartNames.{part_among, part_named, part_words}
use Rattle.xsd_nodes.proofs.part.part_named.Given as goal

abbrev pub invariant-loop-word : goal.invariant-loop-word
invariant-loop-word l = part_among l.fn.name (drop l.word-index part_words) ≡ part_named l.fn.name
