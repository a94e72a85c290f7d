use Rattle.exi_names.specs.Datatypes.{represented}
use Rattle.exi_lexical.proofs.Letters.{ascii_same, no_ascii}
use Rattle.exi_lexical.proofs.values.scalar.Goals as goal

pub returns-then-not-is_ascii : goal.returns-then-not-is_ascii
returns-then-not-is_ascii c = no_ascii (represented c.args.kind.now) c.args.text.now c.utf8.text c.if-not-is_ascii.ensures.cases

pub returns : goal.returns
returns c = rw (← (ascii_same (represented c.args.kind.now) c.args.text.now c.if-not-is_ascii.ensures.cases)) c.form.ensures
