use Rattle.exi_counts.proofs.Sized.{none_right, settled_whole}
use Rattle.exi_counts.proofs.settling.sizes_of.Goals as goal

pub look_at_each-requires : goal.look_at_each-requires
look_at_each-requires c = record {
  schema = c.requires.schema;
  sizes = none_right c.args.elements.now c.in_ok-sizes.sizes.items c.args.count c.in_ok-sizes.ensures c.requires.count;
}

pub returns : goal.returns
returns c = settled_whole c.args.elements.now c.requires.schema c.settle.new.sizes.items c.settle.ensures.sizes c.settle.ensures.settled
