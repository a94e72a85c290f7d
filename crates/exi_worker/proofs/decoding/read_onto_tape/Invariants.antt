use Rattle.exi_worker.proofs.decoding.read_onto_tape.Given as goal

abbrev pub ghosts-read_fragment : goal.ghosts-read_fragment
ghosts-read_fragment g a = record { name = a.blank.name; parts = a.blank.parts }
