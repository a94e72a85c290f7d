use Rattle.std.proofs.Common.{sym, ap, ◌∙◌}
use Rattle.exi_evtext.proofs.Lanes.{behind_first, line_back_is, line_front_is, none_first}
use Rattle.exi_evtext.proofs.run.split_line.Goals as goal

pub returns-in-Some-clause-before : goal.returns-in-Some-clause-before
returns-in-Some-clause-before c = c.split_at.ensures.front ∙ line_front_is c.args.bytes.now c.line_width.result c.line_width.ensures

pub returns-in-Some-clause-behind : goal.returns-in-Some-clause-behind
returns-in-Some-clause-behind c = sym (ap behind_first c.in-Some.ensures.cases.0) ∙ ap behind_first c.split_at.ensures.back ∙ line_back_is c.args.bytes.now c.line_width.result c.line_width.ensures

pub returns-in-None-clause-before : goal.returns-in-None-clause-before
returns-in-None-clause-before c = c.split_at.ensures.front ∙ line_front_is c.args.bytes.now c.line_width.result c.line_width.ensures

pub returns-in-None-clause-behind : goal.returns-in-None-clause-behind
returns-in-None-clause-behind c =
    none_first c.split_at.result.1.now c.in-None.ensures.cases ∙ ap behind_first c.split_at.ensures.back ∙ line_back_is c.args.bytes.now c.line_width.result c.line_width.ensures
