use Rattle.xsd_file.proofs.Found.{document_there, only_document}
use Rattle.xsd_file.proofs.laws.one_document.Goals as goal

pub returns-clause-there : goal.returns-clause-there
returns-clause-there c = document_there c.a_sequence_is_there.ensures.law

pub returns-clause-one : goal.returns-clause-one
returns-clause-one c = only_document c.one_sequence.ensures.law
