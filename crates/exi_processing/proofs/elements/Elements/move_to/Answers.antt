use Rattle.std.proofs.Common.{refl}
use Rattle.exi_processing.proofs.Lasts.{moved_none, moved_some}
use Rattle.exi_processing.proofs.elements.Elements.move_to.Goals as goal
use Rattle.exi_processing.proofs.elements.Elements.move_to.Goals.{in-Some, in_default}

pub returns : goal.returns
returns c = elim c.match-last_mut.branch [
  | in-Some w ↦ rw (w.self-inside-is, ← c.self.view_is) (moved_some c.self.inside.items.items c.self.inside.items.len w.in-Some.element.now w.move_to.new.self c.args.to c.self.inside.items.ok.0 (w.in-Some.ensures.variant.0 refl) w.in-Some.ensures.value w.move_to.ensures)
  | in_default w ↦ rw (w.self-inside-is, ← c.self.view_is) (moved_none c.self.inside.items.items c.self.inside.items.len c.args.to c.self.inside.items.ok.0 w.in_default.ensures.variant.1)
]
