use Rattle.std.proofs.Common.{arith}
use Rattle.std.specs.List.{list_all}
use Rattle.xsd_names.proofs.Lists.{all_ended, all_failed, all_passed}
use Rattle.xsd_paths.specs.Paths.{is_whole, leads_to}
use Rattle.xsd_type_wildcards.proofs.types.are_whole.Goals as goal

pub returns-then-not-leads_to_whole : goal.returns-then-not-leads_to_whole
returns-then-not-leads_to_whole c = all_failed _ (leads_to (is_whole c.args.paths.now)) c.args.named.now c.loop-group.group-index c.leads_to_whole.result (list_all (leads_to (is_whole c.args.paths.now)) c.args.named.now) c.loop-group-test.true c.if-not-leads_to_whole.true c.leads_to_whole.ensures c.loop-group.invariant

pub loop-group-preserved : goal.loop-group-preserved
loop-group-preserved c = all_passed _ (leads_to (is_whole c.args.paths.now)) c.args.named.now c.loop-group.group-index c.leads_to_whole.result (list_all (leads_to (is_whole c.args.paths.now)) c.args.named.now) c.loop-group-test.true c.if-not-leads_to_whole.false c.leads_to_whole.ensures c.loop-group.invariant

pub returns : goal.returns
returns c = all_ended (leads_to (is_whole c.args.paths.now)) c.args.named.now c.loop-group.group-index (list_all (leads_to (is_whole c.args.paths.now)) c.args.named.now) (omega arith) c.loop-group.invariant
