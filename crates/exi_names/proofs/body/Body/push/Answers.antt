use Rattle.std.proofs.Common.{length, ap, sym}
use Rattle.exi_names.proofs.Texts.{chars_of_one}
use Rattle.exi_names.proofs.body.Body.push.Goals as goal

pub push_counted-requires : goal.push_counted-requires
push_counted-requires c = record { counted = rw c.encode_utf8.ensures.value (sym (ap length (chars_of_one c.args.c c.ranges.c.0))) }
