use Rattle.exi_typed.proofs.NewSpaces.{uri_ends}
use Rattle.exi_typed.proofs.spaces.Space.of.Goals as goal

pub returns-clause-least : goal.returns-clause-least
returns-clause-least g c = (uri_ends (g.T.Tables.held c.args.tables.now) c.args.text c.unwrap_or-place.result cc).least

pub returns-clause-space : goal.returns-clause-space
returns-clause-space g c =
    let e = uri_ends (g.T.Tables.held c.args.tables.now) c.args.text c.unwrap_or-place.result cc in
    record { within = e.within; text_is = e.text_is }
