use Rattle.exi_conformance.proofs.composes.by_each_way.Given as goal

abbrev pub ghosts-by_events : goal.ghosts-by_events
ghosts-by_events a = record { name = a.blank.name; parts = a.blank.parts }
