use Rattle.std.proofs.lemmas.Str.{IsUtf8-string_bytes}
use Rattle.exi_names.proofs.txt.Txt.from_string.Goals as goal

pub invariant_of-result : goal.invariant_of-result
invariant_of-result c = ∣ rw c.of_string.ensures (IsUtf8-string_bytes c.args.text) ∣₁
