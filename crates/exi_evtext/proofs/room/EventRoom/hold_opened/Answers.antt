use Rattle.std.proofs.Common.{refl}
use Rattle.exi_names.specs.Seen as shape
use Rattle.exi_evtext.proofs.Refills.{held_opened}
use Rattle.exi_evtext.proofs.room.EventRoom.hold_opened.Goals as goal

pub returns : goal.returns
returns c = held_opened c.reopen.result c.args.bytes.now (shape.seen c.reopen.new.value) _ refl c.reopen.ensures
