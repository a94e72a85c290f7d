use Rattle.std.proofs.lemmas.Str.{IsUtf8-from_ascii}
use Rattle.std.specs.Prelude.{take}
use Rattle.exi_names.proofs.body.Body.of_front.Goals as goal

pub from_utf8_unchecked-requires : goal.from_utf8_unchecked-requires
from_utf8_unchecked-requires c = IsUtf8-from_ascii (take c.args.count c.args.bytes.now) c.requires.ascii
