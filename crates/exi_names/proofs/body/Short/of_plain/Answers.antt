use Rattle.std.proofs.Common.{ap, ◌∙◌, take}
use Rattle.std.proofs.lemmas.List.{take-take}
use Rattle.exi_names.proofs.body.Short.of_plain.Goals as goal

pub invariant_of-result : goal.invariant_of-result
invariant_of-result c = (c.requires.few, rw (c.copy_from_slice.ensures.after, take-take c.args.count 30 c.args.bytes.now c.requires.few) c.requires.plain)

pub returns : goal.returns
returns c = ap (take c.args.count) c.copy_from_slice.ensures.after ∙ take-take c.args.count 30 c.args.bytes.now c.requires.few
