use Rattle.xsd_file.proofs.document.read_body.Given as goal

abbrev pub ghosts-read_events : goal.ghosts-read_events
ghosts-read_events a = record { name = a.blank.name; parts = a.blank.parts }
