use Rattle.std.proofs.Common.{◌∙◌, sym}
use Rattle.exi_builtin.specs.Uses.{is_characters, is_end}
use Rattle.exi_builtin.proofs.Least.{leads_any}
use Rattle.exi_builtin.proofs.learned_list.LearnedList.stands.Goals as goal

pub returns-in-Ch : goal.returns-in-Ch
returns-in-Ch c = rw (c.in-Ch.is, ← c.self.view_is) (c.is_some.ensures ∙ sym (leads_any _ is_characters c.self.inside.characters c.self.invariant.characters_are))

pub returns-in-Ee : goal.returns-in-Ee
returns-in-Ee c = rw (c.in-Ee.is, ← c.self.view_is) (c.is_some-in-Ee.ensures ∙ sym (leads_any _ is_end c.self.inside.end c.self.invariant.end_is))
