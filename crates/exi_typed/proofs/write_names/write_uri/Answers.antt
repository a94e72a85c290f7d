use Rattle.std.proofs.Common.{◌∙◌, sym}
use Rattle.exi_typed.proofs.Writes.{space_new}
use Rattle.exi_typed.proofs.write_names.write_uri.Goals as goal

pub returns-in_ok-place-in-None-clause-place : goal.returns-in_ok-place-in-None-clause-place
returns-in_ok-place-in-None-clause-place g c = c.in_ok-place-in-None.ensures.place ∙ space_new (g.T.Tables.held c.args.tables.now) c.args.text.now (sym c.in-None.is ∙ c.uri_place-found.ensures.place)
