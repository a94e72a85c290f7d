use Rattle.std.proofs.Common.{refl}
use Rattle.exi_tables.specs.Partitions.{locals}
use Rattle.exi_typed.proofs.NewSpaces.{local_ends, told_in}
use Rattle.exi_typed.proofs.spaces.add_local.Goals as goal

pub returns-in-Placed-clause-text : goal.returns-in-Placed-clause-text
returns-in-Placed-clause-text g c = rw c.in-Placed.is (told_in (locals (g.T.Tables.held c.args.tables.now) c.args.uri) c.in-Placed.place c.least_local.result (rw c.in-Placed.is at c.requires.within) c.least_local.ensures).text_is

pub returns-in_ok-place-in-Missed-clause-place : goal.returns-in_ok-place-in-Missed-clause-place
returns-in_ok-place-in-Missed-clause-place g c =
    rw (c.in-Missed.is, c.in_ok-place-in-Missed.ensures.added) (local_ends (g.T.Tables.held c.args.tables.now) c.args.uri c.in-Missed.text c.unwrap_or.result c.requires.uri (rw (c.unwrap_or.ensures, c.local_of-least.ensures, c.in_ok-place-in-Missed.ensures.place) refl)).least

pub returns-in_ok-place-in-Missed-clause-within : goal.returns-in_ok-place-in-Missed-clause-within
returns-in_ok-place-in-Missed-clause-within g c =
    rw c.in_ok-place-in-Missed.ensures.added (local_ends (g.T.Tables.held c.args.tables.now) c.args.uri c.in-Missed.text c.unwrap_or.result c.requires.uri (rw (c.unwrap_or.ensures, c.local_of-least.ensures, c.in_ok-place-in-Missed.ensures.place) refl)).within

pub returns-in_ok-place-in-Missed-clause-text : goal.returns-in_ok-place-in-Missed-clause-text
returns-in_ok-place-in-Missed-clause-text g c =
    rw (c.in-Missed.is, c.in_ok-place-in-Missed.ensures.added) (local_ends (g.T.Tables.held c.args.tables.now) c.args.uri c.in-Missed.text c.unwrap_or.result c.requires.uri (rw (c.unwrap_or.ensures, c.local_of-least.ensures, c.in_ok-place-in-Missed.ensures.place) refl)).text_is
