use Rattle.std.proofs.Common.{refl}
use Rattle.exi_reader.proofs.CodeParts.{none_told, outer_starts}
use Rattle.exi_reader.proofs.stepper.Stepper.outer_rule_apart.Goals as goal

pub returns-in-FragmentStart : goal.returns-in-FragmentStart
returns-in-FragmentStart g c = record { picks = (rw (← c.self.view_is) (outer_starts c.self.inside.book.now c.self.inside.overlay c.self.inside.outer c.self.inside.input _ c.in-FragmentStart.is c.fragment_start.ensures), refl) }

pub returns-in-Ended : goal.returns-in-Ended
returns-in-Ended g c = record { picks = (rw (← c.self.view_is, c.in-Ended.is, c.at.ensures.place) (none_told c.self.inside.book.now c.self.inside.input), refl) }
