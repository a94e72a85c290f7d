use Rattle.std.proofs.Common.{ap, ◌∙◌}
use Rattle.std.specs.Prelude.{position}
use Rattle.exi_worker.specs.Desks.{is_for}
use Rattle.exi_worker.proofs.Holding.{takes_at}
use Rattle.exi_worker.proofs.list_desk.take_first.Goals as goal

pub returns-in-Some : goal.returns-in-Some
returns-in-Some c = record { gives = takes_at c.args.byte c.in-Some.place c.args.held.now.items c.remove-posting.new.self.items c.remove-posting.result (c.in-Some.ensures.found ∙ ap (position (is_for c.args.byte)) c.as_slice.ensures.value) c.remove-posting.ensures.value c.remove-posting.ensures.items }
