use Rattle.exi_gram.proofs.book.read_code.Given as goal

abbrev pub ghosts-find_in : goal.ghosts-find_in
ghosts-find_in a = record { name = a.blank.name; parts = a.blank.parts }
