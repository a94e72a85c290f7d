use Rattle.std.proofs.Common.{◌∙◌}
use Rattle.exi_processing.proofs.ToldNames.{uri_charged, uri_uncharged}
use Rattle.exi_reader.proofs.names.charge_uri.Goals as goal

pub returns-then-text : goal.returns-then-text
returns-then-text g c = record { charged = uri_charged (g.T.Tables.held c.args.tables.now) c.args.uri c.from.result c.in-Some.text.now c.args.input.now c.args.meter.now c.in-Some.ensures (c.from.ensures ∙ c.count.ensures) c.text.new.self c.if-text.ensures.fits c.if-text.ensures.counted }

pub returns : goal.returns
returns g c = record { charged = uri_uncharged (g.T.Tables.held c.args.tables.now) c.args.uri c.from.result c.in-Some.text.now c.args.input.now c.args.meter.now c.in-Some.ensures (c.from.ensures ∙ c.count.ensures) c.text.new.self c.at-bit.result c.if-text.ensures.fits c.if-text.ensures.same c.at-bit.ensures.place }
