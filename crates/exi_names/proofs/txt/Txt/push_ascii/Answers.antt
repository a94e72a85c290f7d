use Rattle.std.proofs.Common.{List, ℕ, ◌≡◌, ◌++◌, ap, sym, ◌∙◌}
use Rattle.std.proofs.lemmas.Str.{IsUtf8-from_ascii, chars-IsAscii}
use Rattle.exi_names.proofs.Texts.{appended_utf8, chars_appended, count-ascii}
use Rattle.exi_names.proofs.txt.Txt.push_ascii.Goals as goal

pub from_utf8_unchecked-text-requires : goal.from_utf8_unchecked-text-requires
from_utf8_unchecked-text-requires c = IsUtf8-from_ascii c.args.bytes.now c.requires.ascii

pub push_counted-requires : goal.push_counted-requires
push_counted-requires c = record { counted = rw c.from_utf8_unchecked-text.ensures (sym (count-ascii c.args.bytes.now c.requires.ascii)) }

pub invariant_of-self-2 : goal.invariant_of-self-2
invariant_of-self-2 c =
    let ok : c.push_counted.new.self ≡ c.self.inside.body ++ c.args.bytes.now = rw c.from_utf8_unchecked-text.ensures at c.in_ok-push_counted.ensures.ok in
    appended_utf8 c.self.inside.body c.args.bytes.now c.push_counted.new.self c.self.invariant (IsUtf8-from_ascii c.args.bytes.now c.requires.ascii) ok

pub returns-clause-ok : goal.returns-clause-ok
returns-clause-ok c =
    let ok : c.push_counted.new.self ≡ c.self.inside.body ++ c.args.bytes.now = rw c.from_utf8_unchecked-text.ensures at c.in_ok-push_counted.ensures.ok in
    chars_appended c.self.inside.body c.args.bytes.now c.push_counted.new.self c.args.self.now c.self.invariant ok c.self.view_is
    ∙ ap (λ (t : List ℕ). c.args.self.now ++ t) (chars-IsAscii c.args.bytes.now c.requires.ascii)

pub invariant_of-self : goal.invariant_of-self
invariant_of-self c = rw c.in_err-push_counted.ensures.err c.self.invariant
