use Rattle.std.proofs.Common.{length, ap, sym, ◌∙◌}
use Rattle.exi_builtin.specs.Learning.{Learning}
use Rattle.exi_processing.proofs.Steppers.{use_count}
use Rattle.exi_processing.proofs.changes.learn.Goals as goal

pub learn-requires-clause-room : goal.learn-requires-clause-room
learn-requires-clause-room c = c.requires.learns.there c.in-Some.room (sym c.room_in.ensures ∙ c.in-Some.is)

pub learn-requires-clause-few : goal.learn-requires-clause-few
learn-requires-clause-few c = c.requires.learns.few c.in-Some.room

pub returns-in_ok-learn-clause-grammars : goal.returns-in_ok-learn-clause-grammars
returns-in_ok-learn-clause-grammars c = ap (λ (l : Learning). length l.grammars) c.in_ok-learn.ensures.learned ∙ use_count c.args.overlay.now c.in-Some.room c.args.used
