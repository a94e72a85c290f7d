use Rattle.std.proofs.Common.{◌≡◌, ◌++◌, drop, map}
use Rattle.exi_names.specs.Events.{happens}
use Rattle.xsd_tree.specs.StartTags.{scope_of}
use Rattle.xsd_tree.proofs.start_tag.scope_of.Given as goal

abbrev pub invariant-loop-event : goal.invariant-loop-event
invariant-loop-event l = l.scope ++ scope_of (drop l.event-index (map happens l.fn.events)) ≡ scope_of (map happens l.fn.events)
