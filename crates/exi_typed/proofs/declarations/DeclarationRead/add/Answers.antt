use Rattle.exi_typed.proofs.NewSpaces.{declaration_landed, room_for_prefix}
use Rattle.exi_typed.proofs.declarations.DeclarationRead.add.Goals as goal

pub add_prefix-requires-clause-room : goal.add_prefix-requires-clause-room
add_prefix-requires-clause-room g c = room_for_prefix (g.T.Tables.held c.args.tables.now) (g.T.Tables.held c.add.new.tables) c.args.self.space.missed c.in_ok-uri.uri c.requires.few c.in_ok-uri.ensures.added

pub returns-clause-declaration : goal.returns-clause-declaration
returns-clause-declaration g c = (declaration_landed (g.T.Tables.held c.args.tables.now) (g.T.Tables.held c.add.new.tables) (g.T.Tables.held c.add_prefix.new.tables) c.args.self c.in_ok-uri.uri c.in_ok-prefix.prefix c.requires.read c.in_ok-uri.ensures.added c.in_ok-uri.ensures.place c.in_ok-prefix.ensures.added c.in_ok-prefix.ensures.within c.in_ok-prefix.ensures.text).0

pub returns-clause-places : goal.returns-clause-places
returns-clause-places g c = (declaration_landed (g.T.Tables.held c.args.tables.now) (g.T.Tables.held c.add.new.tables) (g.T.Tables.held c.add_prefix.new.tables) c.args.self c.in_ok-uri.uri c.in_ok-prefix.prefix c.requires.read c.in_ok-uri.ensures.added c.in_ok-uri.ensures.place c.in_ok-prefix.ensures.added c.in_ok-prefix.ensures.within c.in_ok-prefix.ensures.text).1
