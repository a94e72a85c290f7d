use Rattle.std.proofs.Common.{map, refl, ◌∙◌}
use Rattle.exi_tape.specs.Rolls.{backwards}
use Rattle.exi_tape.specs.Walks.{left}
use Rattle.exi_tape.proofs.Pieces.{over_is}
use Rattle.exi_tape.proofs.walk.Walk.is_over.Goals as goal

pub returns-clause-over : goal.returns-clause-over
returns-clause-over c =
    c.is_empty.ensures ∙ over_is c.turn.new.self.rest.now (left c.turn.new.self) (left c.args.self.now) (backwards (map (λ s. s.now) c.turn.new.self.later.items)) refl c.turn.ensures.left c.turn.ensures.none
