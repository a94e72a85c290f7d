use Rattle.exi_typed.proofs.NewSpaces.{prefix_ends}
use Rattle.exi_typed.proofs.spaces.add_prefix.Goals as goal

pub returns-in_ok-place-in-Missed-clause-within : goal.returns-in_ok-place-in-Missed-clause-within
returns-in_ok-place-in-Missed-clause-within g c = rw (c.in_ok-place-in-Missed.ensures.added, c.in_ok-place-in-Missed.ensures.place) (prefix_ends (g.T.Tables.held c.args.tables.now) c.args.uri c.in-Missed.text c.requires.uri).1

pub returns-in_ok-place-in-Missed-clause-text : goal.returns-in_ok-place-in-Missed-clause-text
returns-in_ok-place-in-Missed-clause-text g c = rw (c.in-Missed.is, c.in_ok-place-in-Missed.ensures.added, c.in_ok-place-in-Missed.ensures.place) (prefix_ends (g.T.Tables.held c.args.tables.now) c.args.uri c.in-Missed.text c.requires.uri).0
