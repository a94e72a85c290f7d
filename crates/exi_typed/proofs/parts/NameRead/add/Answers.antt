use Rattle.exi_typed.proofs.NewSpaces.{landed}
use Rattle.exi_typed.proofs.parts.NameRead.add.Goals as goal

pub returns-clause-name : goal.returns-clause-name
returns-clause-name g c = (landed (g.T.Tables.held c.args.tables.now) (g.T.Tables.held c.add.new.tables) (g.T.Tables.held c.add_local.new.tables) c.args.self c.in_ok-uri.uri c.in_ok-local.local c.requires.read c.in_ok-uri.ensures.added c.in_ok-uri.ensures.place c.in_ok-local.ensures.added c.in_ok-local.ensures.place c.in_ok-local.ensures.within c.in_ok-local.ensures.text).0

pub returns-clause-places : goal.returns-clause-places
returns-clause-places g c = (landed (g.T.Tables.held c.args.tables.now) (g.T.Tables.held c.add.new.tables) (g.T.Tables.held c.add_local.new.tables) c.args.self c.in_ok-uri.uri c.in_ok-local.local c.requires.read c.in_ok-uri.ensures.added c.in_ok-uri.ensures.place c.in_ok-local.ensures.added c.in_ok-local.ensures.place c.in_ok-local.ensures.within c.in_ok-local.ensures.text).1
