use Rattle.std.proofs.Common.{◌+◌, drop, map, sym, ◌∙◌, arith}
use Rattle.exi_names.specs.Events.{happens}
use Rattle.xsd_tree.specs.StartTags.{scope_of}
use Rattle.xsd_tree.proofs.Events.{event_at, no_event}
use Rattle.xsd_tree.proofs.Tags.{scope_all, scope_end, scope_more}
use Rattle.xsd_tree.proofs.start_tag.scope_of.Goals as goal

pub returns-then-not-is_in_tag : goal.returns-then-not-is_in_tag
returns-then-not-is_in_tag c =
    scope_end c.loop-event.scope (happens c.event-item.result) (drop (c.loop-event.event-index + 1) (map happens c.args.events.now)) (drop c.loop-event.event-index (map happens c.args.events.now)) (scope_of (map happens c.args.events.now))
    (event_at c.args.events.now c.loop-event.event-index c.event-item.result c.loop-event-test.true c.event-item.is)
    (sym c.is_in_tag.ensures ∙ c.if-not-is_in_tag.true) c.loop-event.invariant

pub loop-event-preserved : goal.loop-event-preserved
loop-event-preserved c =
    scope_more c.loop-event.scope c.push_scope.new.scope (happens c.event-item.result) (drop (c.loop-event.event-index + 1) (map happens c.args.events.now)) (drop c.loop-event.event-index (map happens c.args.events.now)) (scope_of (map happens c.args.events.now))
    (event_at c.args.events.now c.loop-event.event-index c.event-item.result c.loop-event-test.true c.event-item.is)
    (sym c.is_in_tag.ensures ∙ c.if-not-is_in_tag.false) c.in_ok-push_scope.ensures c.loop-event.invariant

pub returns : goal.returns
returns c =
    scope_all c.loop-event.scope (drop c.loop-event.event-index (map happens c.args.events.now)) (scope_of (map happens c.args.events.now))
    (no_event c.args.events.now c.loop-event.event-index (omega arith)) c.loop-event.invariant
