use Rattle.exi_names.specs.Datatypes.{represented}
use Rattle.exi_lexical.proofs.Named.{if_again, if_formed, if_named}
use Rattle.exi_lexical.proofs.values.value_of.Goals as goal

pub returns-clause-text : goal.returns-clause-text
returns-clause-text c = if_named (represented c.args.kind.now) _ c.value_in.result c.value_in.ensures

pub returns-clause-again : goal.returns-clause-again
returns-clause-again c = if_again (represented c.args.kind.now) _ c.value_in.result c.value_in.ensures

pub returns-clause-form : goal.returns-clause-form
returns-clause-form c = if_formed (represented c.args.kind.now) _ c.value_in.result c.value_in.ensures
