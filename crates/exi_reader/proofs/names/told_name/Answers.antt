use Rattle.exi_reader.proofs.names.told_name.Goals as goal

pub read_known-requires-clause-name : goal.read_known-requires-clause-name
read_known-requires-clause-name g c = c.requires.known.known c.in-Known.id c.in-Known.is
