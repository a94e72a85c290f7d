use Rattle.std.proofs.Common.{◌∙◌, sym}
use Rattle.exi_tables.specs.Partitions.{locals}
use Rattle.exi_typed.proofs.NewSpaces.{told_at}
use Rattle.exi_typed.proofs.spaces.told_local.Goals as goal

pub returns-clause-text : goal.returns-clause-text
returns-clause-text g c = (told_at (locals (g.T.Tables.held c.args.tables.now) c.args.uri) c.in_ok-text.text.now c.args.place c.least_local.result (sym c.local_at.ensures ∙ c.in_ok-text.ensures) c.least_local.ensures).text_is

pub returns-clause-least : goal.returns-clause-least
returns-clause-least g c = (told_at (locals (g.T.Tables.held c.args.tables.now) c.args.uri) c.in_ok-text.text.now c.args.place c.least_local.result (sym c.local_at.ensures ∙ c.in_ok-text.ensures) c.least_local.ensures).least

pub returns-clause-within : goal.returns-clause-within
returns-clause-within g c = (told_at (locals (g.T.Tables.held c.args.tables.now) c.args.uri) c.in_ok-text.text.now c.args.place c.least_local.result (sym c.local_at.ensures ∙ c.in_ok-text.ensures) c.least_local.ensures).within
