use Rattle.exi_tape.proofs.Pieces.{turned}
use Rattle.std.proofs.Common.{rules, ◌∙◌, ◌≡◌, length}
use Rattle.exi_tape.proofs.walk.Walk.turn.Goals as goal

pub loop-self-preserved : goal.loop-self-preserved
loop-self-preserved c =
    let none : length c.loop-self.self.rest.now ≡ 0 = search rules in
    (turned (λ s. s.now) c.loop-self.self.rest.now c.loop-self.self.later.items c.pop.new.self.items c.in-Some.page none (search rules) ∙ c.loop-self.invariant.0, c.loop-self.invariant.1)
