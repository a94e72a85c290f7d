use Rattle.xsd_restrictions.proofs.Entries.{atomic_no_list}
use Rattle.xsd_restrictions.proofs.restriction.choice.Goals as goal

pub values_at-requires-clause-item : goal.values_at-requires-clause-item
values_at-requires-clause-item c = atomic_no_list c.args.forms.now c.args.base.now c.requires.base c.requires.atomic
