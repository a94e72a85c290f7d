use Rattle.std.proofs.Common.{◌∙◌, refl, sym}
use Rattle.exi_tables.specs.Partitions.{uris}
use Rattle.exi_typed.proofs.NewSpaces.{told_at}
use Rattle.exi_typed.proofs.spaces.Space.told.Goals as goal

pub returns-clause-text : goal.returns-clause-text
returns-clause-text g c = rw c.at.ensures (told_at (uris (g.T.Tables.held c.args.tables.now)) c.in_ok-text.text.now c.args.place c.least_uri.result (sym c.uri_at.ensures ∙ c.in_ok-text.ensures) c.least_uri.ensures).text_is

pub returns-clause-least : goal.returns-clause-least
returns-clause-least g c = rw c.at.ensures (told_at (uris (g.T.Tables.held c.args.tables.now)) c.in_ok-text.text.now c.args.place c.least_uri.result (sym c.uri_at.ensures ∙ c.in_ok-text.ensures) c.least_uri.ensures).least

pub returns-clause-space : goal.returns-clause-space
returns-clause-space g c =
    let t = told_at (uris (g.T.Tables.held c.args.tables.now)) c.in_ok-text.text.now c.args.place c.least_uri.result (sym c.uri_at.ensures ∙ c.in_ok-text.ensures) c.least_uri.ensures in
    rw c.at.ensures (record { within = t.within; text_is = refl })
