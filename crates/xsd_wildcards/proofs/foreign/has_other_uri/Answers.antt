use Rattle.std.proofs.Common.{ap, ◌∙◌, arith}
use Rattle.std.specs.List.{list_any}
use Rattle.std.specs.Str.{chars}
use Rattle.xsd_nodes.proofs.Lists.{any_ended, any_found, any_passed}
use Rattle.xsd_wildcards.specs.Wildcards.{is_other_uri}
use Rattle.xsd_wildcards.proofs.foreign.has_other_uri.Goals as goal

pub returns-then-is_other_uri : goal.returns-then-is_other_uri
returns-then-is_other_uri c = any_found c.word-item.result (is_other_uri (chars c.args.own.now)) c.args.words.now c.loop-word.word-index c.is_other_uri.result (list_any (is_other_uri (chars c.args.own.now)) c.args.words.now) c.loop-word-test.true c.if-is_other_uri.true (c.is_other_uri.ensures ∙ ap (is_other_uri (chars c.args.own.now)) c.word-item.is) c.loop-word.invariant

pub loop-word-preserved : goal.loop-word-preserved
loop-word-preserved c = any_passed c.word-item.result (is_other_uri (chars c.args.own.now)) c.args.words.now c.loop-word.word-index c.is_other_uri.result (list_any (is_other_uri (chars c.args.own.now)) c.args.words.now) c.loop-word-test.true c.if-is_other_uri.false (c.is_other_uri.ensures ∙ ap (is_other_uri (chars c.args.own.now)) c.word-item.is) c.loop-word.invariant

pub returns : goal.returns
returns c = any_ended (is_other_uri (chars c.args.own.now)) c.args.words.now c.loop-word.word-index (list_any (is_other_uri (chars c.args.own.now)) c.args.words.now) (omega arith) c.loop-word.invariant
