use Rattle.exi_normal.proofs.Marked.{noted_none, noted_other, noted_some, read_none, read_some}
use Rattle.exi_normal.proofs.groups.place_on.Goals as goal

pub returns-then-on-group : goal.returns-then-on-group
returns-then-on-group c =
    noted_some c.args.notes.now c.args.groups.now c.args.on c.in-Some.place.now c.in-Some-get.group.now c.requires.noted
    (read_some c.args.notes.now c.args.on c.in-Some.place.now c.in-Some.ensures.lookup.0 c.in-Some.ensures.lookup.1)
    (read_some c.args.groups.now c.in-Some.place.now c.in-Some-get.group.now c.in-Some-get.ensures.lookup.0 c.in-Some-get.ensures.lookup.1)
    c.if-on-group.true

pub returns-else-on-group : goal.returns-else-on-group
returns-else-on-group c =
    noted_other c.args.notes.now c.args.groups.now c.args.on c.in-Some.place.now c.in-Some-get.group.now c.requires.noted
    (read_some c.args.notes.now c.args.on c.in-Some.place.now c.in-Some.ensures.lookup.0 c.in-Some.ensures.lookup.1)
    (read_some c.args.groups.now c.in-Some.place.now c.in-Some-get.group.now c.in-Some-get.ensures.lookup.0 c.in-Some-get.ensures.lookup.1)
    c.if-on-group.false

pub returns-in-None-get : goal.returns-in-None-get
returns-in-None-get c =
    noted_none c.args.notes.now c.args.groups.now c.args.on c.in-Some.place.now c.requires.noted
    (read_some c.args.notes.now c.args.on c.in-Some.place.now c.in-Some.ensures.lookup.0 c.in-Some.ensures.lookup.1)
    (read_none c.args.groups.now c.in-Some.place.now c.in-None-get.ensures.lookup.0)
