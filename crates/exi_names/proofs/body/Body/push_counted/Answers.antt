use Rattle.std.proofs.lemmas.Str.{IsUtf8-string_bytes}
use Rattle.std.specs.String.{string_bytes}
use Rattle.exi_names.proofs.Texts.{counted_more}
use Rattle.exi_names.proofs.body.Body.push_counted.Goals as goal

pub invariant_of-self-in-Long : goal.invariant_of-self-in-Long
invariant_of-self-in-Long c =
    counted_more c.in-Long.characters c.added.result c.args.more (string_bytes c.in-Long.long) c.args.text.now (string_bytes c.push_str-in-Long.new.self) (IsUtf8-string_bytes c.in-Long.long) (rw c.in-Long.is at c.self.invariant)
    c.in_ok-push_str-in-Long.ensures.bytes c.requires.counted c.added.ensures
