use Rattle.xsd_restrictions.proofs.Places.{no_integer}
use Rattle.xsd_restrictions.specs.Restrictions.{form_at}
use Rattle.xsd_restrictions.proofs.forms.Forms.integer.Goals as goal

pub returns-in-None : goal.returns-in-None
returns-in-None c = no_integer (form_at c.args.self.now c.args.place) c.args.text.now c.in-None.ensures
