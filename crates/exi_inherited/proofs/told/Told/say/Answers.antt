use Rattle.std.proofs.Common.{sym, ap, ◌∙◌}
use Rattle.exi_inherited.specs.Told.{told_with, said_entry}
use Rattle.exi_inherited.proofs.Keeping.{saids, told_before, told_now}
use Rattle.exi_inherited.proofs.told.Told.say.Goals as goal

pub returns-then-contains_key : goal.returns-then-contains_key
returns-then-contains_key c =
    let same = c.self.view_is in
    sym same ∙ told_before c.args.name c.args.use_of c.self.inside.said.entries c.contains_key.result c.contains_key.ensures c.if-contains_key.true ∙ ap (told_with (said_entry (c.args.name, c.args.use_of))) same

pub returns : goal.returns
returns c =
    let same = c.self.view_is in
    ap saids c.in_ok-insert.ensures.entries ∙ told_now c.args.name c.args.use_of c.self.inside.said.entries c.contains_key.result c.contains_key.ensures c.if-contains_key.false ∙ ap (told_with (said_entry (c.args.name, c.args.use_of))) same
