use Rattle.exi_names.proofs.Texts.{appended_utf8, chars_appended}
use Rattle.exi_names.proofs.txt.Txt.push_str.Goals as goal

pub invariant_of-self-2 : goal.invariant_of-self-2
invariant_of-self-2 c = appended_utf8 c.self.inside.body c.args.text.now c.push_counted.new.self c.self.invariant c.utf8.text c.in_ok-push_counted.ensures.ok

pub returns-clause-ok : goal.returns-clause-ok
returns-clause-ok c = chars_appended c.self.inside.body c.args.text.now c.push_counted.new.self c.args.self.now c.self.invariant c.in_ok-push_counted.ensures.ok c.self.view_is

pub invariant_of-self : goal.invariant_of-self
invariant_of-self c = rw c.in_err-push_counted.ensures.err c.self.invariant
