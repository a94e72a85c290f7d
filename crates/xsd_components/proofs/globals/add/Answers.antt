use Rattle.std.proofs.Common.{sym, ap, ◌∙◌, is_some}
use Rattle.xsd_components.proofs.Kept.{added, known}
use Rattle.xsd_components.proofs.globals.add.Goals as goal

pub returns-then-is_some : goal.returns-then-is_some
returns-then-is_some c =
    known c.args.nodes.now c.args.firsts.now.entries c.args.global c.part_at.result c.part_at.ensures (ap is_some (sym c.find.ensures) ∙ sym c.is_some.ensures ∙ c.if-is_some.true)

pub returns : goal.returns
returns c = added c.args.nodes.now c.args.firsts.now.entries c.put.new.firsts.entries c.args.global c.in_ok-put.ensures
