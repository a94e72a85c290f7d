use Rattle.xsd_places.proofs.Behind.{all_before}
use Rattle.xsd_places.proofs.counts.count_at.Goals as goal

pub returns-in-None : goal.returns-in-None
returns-in-None c =
    all_before c.args.kind c.args.nodes.now c.args.counts.now.before.items c.deref.result.now c.args.counts.now.all c.args.place
    c.deref.ensures.value c.requires.counted.count c.requires.counted.all c.in-None.ensures.lookup.0
