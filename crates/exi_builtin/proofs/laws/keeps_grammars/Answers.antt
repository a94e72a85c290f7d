use Rattle.exi_builtin.proofs.LearningLaws.{learned_kept, place_after, place_made, room_after}
use Rattle.exi_builtin.proofs.laws.keeps_grammars.Goals as goal

pub returns-clause-made : goal.returns-clause-made
returns-clause-made c = place_made

pub returns-clause-places_after_use : goal.returns-clause-places_after_use
returns-clause-places_after_use c = place_after

pub returns-clause-rooms_after_use : goal.returns-clause-rooms_after_use
returns-clause-rooms_after_use c = room_after

pub returns-clause-learned : goal.returns-clause-learned
returns-clause-learned c = learned_kept
