use Rattle.exi_ways.proofs.Forms.{entries_are_forms, forms_stand, grammars_stand, plain_stands}
use Rattle.exi_ways.proofs.laws.forms_stand.Goals as goal

pub returns-clause-grammars : goal.returns-clause-grammars
returns-clause-grammars c = grammars_stand

pub returns-clause-plain : goal.returns-clause-plain
returns-clause-plain c = plain_stands

pub returns-clause-forms : goal.returns-clause-forms
returns-clause-forms c = forms_stand

pub returns-clause-entries : goal.returns-clause-entries
returns-clause-entries c = entries_are_forms
