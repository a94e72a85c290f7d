use Rattle.std.proofs.Common.{refl}
use Rattle.xsd_restrictions.proofs.Entries.{kept_same}
use Rattle.xsd_restrictions.proofs.restriction.narrowed.Goals as goal

pub returns-clause-kept : goal.returns-clause-kept
returns-clause-kept c = λ plain. kept_same c.args.forms.now c.args.base.now _ refl refl refl c.requires.base plain
