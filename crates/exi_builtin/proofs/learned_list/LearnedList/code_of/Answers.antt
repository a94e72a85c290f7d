use Rattle.std.proofs.Common.{◌∙◌, All, List, sym, subst}
use Rattle.exi_builtin.specs.declared.learnable.Learnable.{Learnable}
use Rattle.exi_builtin.specs.declared.learnable.Learnable.TheVariants as learnable
use Rattle.exi_builtin.specs.Marks.{IsLearned, LeadsTo}
use Rattle.exi_builtin.specs.Uses.{is_characters, is_end}
use Rattle.exi_builtin.proofs.Least.{found_ch, found_ee, none_of}
use Rattle.exi_builtin.proofs.learned_list.LearnedList.code_of.Goals as goal

pub returns-in-SeAny : goal.returns-in-SeAny
returns-in-SeAny c = rw c.in-SeAny.is (sym (none_of learnable.SeAny c.args.self.now tt (subst (All IsLearned) c.self.view_is c.self.invariant.only)))

pub returns-in-AtAny : goal.returns-in-AtAny
returns-in-AtAny c = rw c.in-AtAny.is (sym (none_of learnable.AtAny c.args.self.now tt (subst (All IsLearned) c.self.view_is c.self.invariant.only)))

pub returns-in-Ed : goal.returns-in-Ed
returns-in-Ed c = rw c.in-Ed.is (sym (none_of learnable.Ed c.args.self.now tt (subst (All IsLearned) c.self.view_is c.self.invariant.only)))

pub returns-in-Ns : goal.returns-in-Ns
returns-in-Ns c = rw c.in-Ns.is (sym (none_of learnable.Ns c.args.self.now tt (subst (All IsLearned) c.self.view_is c.self.invariant.only)))

pub returns-in-Sc : goal.returns-in-Sc
returns-in-Sc c = rw c.in-Sc.is (sym (none_of learnable.Sc c.args.self.now tt (subst (All IsLearned) c.self.view_is c.self.invariant.only)))

pub returns-in-Er : goal.returns-in-Er
returns-in-Er c = rw c.in-Er.is (sym (none_of learnable.Er c.args.self.now tt (subst (All IsLearned) c.self.view_is c.self.invariant.only)))

pub returns-in-Cm : goal.returns-in-Cm
returns-in-Cm c = rw c.in-Cm.is (sym (none_of learnable.Cm c.args.self.now tt (subst (All IsLearned) c.self.view_is c.self.invariant.only)))

pub returns-in-Pi : goal.returns-in-Pi
returns-in-Pi c = rw c.in-Pi.is (sym (none_of learnable.Pi c.args.self.now tt (subst (All IsLearned) c.self.view_is c.self.invariant.only)))

pub returns-in-Ch : goal.returns-in-Ch
returns-in-Ch c =
    rw c.in-Ch.is (c.code_if.ensures ∙ found_ch c.args.self.now c.in-Ch.one_part c.self.inside.characters
    (subst (λ (xs : List Learnable). LeadsTo xs is_characters c.self.inside.characters) c.self.view_is c.self.invariant.characters_are)
    (subst (All IsLearned) c.self.view_is c.self.invariant.only))

pub returns-in-Ee : goal.returns-in-Ee
returns-in-Ee c =
    rw c.in-Ee.is (c.code_if-in-Ee.ensures ∙ found_ee c.args.self.now c.in-Ee.one_part c.self.inside.end
    (subst (λ (xs : List Learnable). LeadsTo xs is_end c.self.inside.end) c.self.view_is c.self.invariant.end_is)
    (subst (All IsLearned) c.self.view_is c.self.invariant.only))
