use Rattle.std.proofs.Common.{◌≡◌, ◌≢◌, length, sym, ◌∙◌}
use Rattle.exi_names.specs.Seen.{vals}
use Rattle.exi_names.proofs.Same.{other_lengths, length_vals}
use Rattle.exi_names.proofs.val.+same.Goals as goal

pub ValList::same-returns-then-len : goal.ValList::same-returns-then-len
ValList::same-returns-then-len t c =
    let one : length (vals c.args.self.now) ≡ c.len.result = length_vals c.args.self.now ∙ sym c.len.ensures in
    let two : length (vals c.args.other.now) ≡ c.len-2.result = length_vals c.args.other.now ∙ sym c.len-2.ensures in
    let other : length (vals c.args.self.now) ≢ length (vals c.args.other.now) = λ h. c.if-len.true (sym one ∙ h ∙ two) in
    sym (other_lengths (vals c.args.self.now) (vals c.args.other.now) other)
