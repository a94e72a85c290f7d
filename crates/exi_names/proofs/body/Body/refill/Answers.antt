use Rattle.std.proofs.Common.{sym, ◌∙◌, length-take-le}
use Rattle.std.proofs.lemmas.Str.{IsUtf8-from_ascii}
use Rattle.std.specs.Prelude.{take}
use Rattle.exi_names.proofs.Texts.{count-ascii}
use Rattle.exi_names.proofs.Together.{plain_ascii}
use Rattle.exi_names.proofs.body.Body.refill.Goals as goal

pub from_utf8_unchecked-text-requires : goal.from_utf8_unchecked-text-requires
from_utf8_unchecked-text-requires c = IsUtf8-from_ascii (take c.args.count c.args.bytes.now) (plain_ascii (take c.args.count c.args.bytes.now) c.requires.plain)

pub push_counted-requires : goal.push_counted-requires
push_counted-requires c = record { counted = rw c.from_utf8_unchecked-text.ensures (sym (count-ascii (take c.args.count c.args.bytes.now) (plain_ascii (take c.args.count c.args.bytes.now) c.requires.plain) ∙ length-take-le c.args.count c.args.bytes.now c.requires.within)) }
