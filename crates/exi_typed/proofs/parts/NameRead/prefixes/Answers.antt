use Rattle.exi_typed.specs.Places.{with_space}
use Rattle.exi_typed.proofs.NewSpaces.{prefixes_spelled}
use Rattle.exi_typed.proofs.parts.NameRead.prefixes.Goals as goal

pub returns : goal.returns
returns g c = rw (prefixes_spelled (with_space (g.T.Tables.held c.args.tables.now) c.args.self.now.space) c.args.self.now.space.place c.args.self.now.local) c.prefixes.ensures
