use Rattle.std.proofs.lemmas.Str.{encodes-chars, IsUtf8-had}
use Rattle.exi_names.proofs.txt.Txt.room.Goals as goal

pub returns-clause-bytes : goal.returns-clause-bytes
returns-clause-bytes c = rw (← c.self.view_is, encodes-chars c.self.inside.body (IsUtf8-had c.self.inside.body c.self.invariant)) c.room.ensures.bytes

pub returns-clause-plain : goal.returns-clause-plain
returns-clause-plain c = rw (← c.self.view_is, encodes-chars c.self.inside.body (IsUtf8-had c.self.inside.body c.self.invariant)) c.room.ensures.plain
