use Rattle.std.proofs.lemmas.Str.{IsUtf8-from_ascii}
use Rattle.exi_names.proofs.Together.{plain_ascii}
use Rattle.exi_names.proofs.body.Short.as_str.Goals as goal

pub from_utf8_unchecked-requires : goal.from_utf8_unchecked-requires
from_utf8_unchecked-requires c = rw c.from.ensures (IsUtf8-from_ascii _ (plain_ascii _ c.self.invariant.1))
