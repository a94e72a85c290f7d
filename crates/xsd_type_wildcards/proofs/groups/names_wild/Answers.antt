use Rattle.std.proofs.Common.{arith}
use Rattle.std.specs.List.{list_any}
use Rattle.xsd_nodes.proofs.Lists.{any_ended, any_found, any_passed}
use Rattle.xsd_paths.specs.Paths.{leads_to}
use Rattle.xsd_type_wildcards.specs.Told.{is_marked}
use Rattle.xsd_type_wildcards.proofs.groups.names_wild.Goals as goal

pub returns-then-leads_to_wild : goal.returns-then-leads_to_wild
returns-then-leads_to_wild c = any_found _ (leads_to (is_marked c.args.groups.now)) c.args.named.now c.loop-group.group-index c.leads_to_wild.result (list_any (leads_to (is_marked c.args.groups.now)) c.args.named.now) c.loop-group-test.true c.if-leads_to_wild.true c.leads_to_wild.ensures c.loop-group.invariant

pub loop-group-preserved : goal.loop-group-preserved
loop-group-preserved c = any_passed _ (leads_to (is_marked c.args.groups.now)) c.args.named.now c.loop-group.group-index c.leads_to_wild.result (list_any (leads_to (is_marked c.args.groups.now)) c.args.named.now) c.loop-group-test.true c.if-leads_to_wild.false c.leads_to_wild.ensures c.loop-group.invariant

pub returns : goal.returns
returns c = any_ended (leads_to (is_marked c.args.groups.now)) c.args.named.now c.loop-group.group-index (list_any (leads_to (is_marked c.args.groups.now)) c.args.named.now) (omega arith) c.loop-group.invariant
