use Rattle.std.proofs.Common.{◌≡◌, ◌++◌, drop, map}
use Rattle.exi_names.specs.Events.{happens}
use Rattle.xsd_tree.specs.StartTags.{attributes_of}
use Rattle.xsd_tree.proofs.start_tag.attributes_of.Given as goal

abbrev pub invariant-loop-event : goal.invariant-loop-event
invariant-loop-event l = l.attributes ++ attributes_of (drop l.event-index (map happens l.fn.events)) ≡ attributes_of (map happens l.fn.events)
