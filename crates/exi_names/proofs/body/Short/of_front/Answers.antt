use Rattle.std.proofs.lemmas.List.{take-take}
use Rattle.exi_names.proofs.body.Short.of_front.Goals as goal

pub returns : goal.returns
returns c = rw (c.copy_from_slice.ensures.after, take-take c.args.count 30 c.args.bytes.now c.requires.few) at c.of_room.ensures
