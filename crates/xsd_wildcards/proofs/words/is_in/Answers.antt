use Rattle.std.proofs.Common.{ap, ◌∙◌, arith}
use Rattle.std.specs.Str.{bytes_eq}
use Rattle.xsd_nodes.proofs.Lists.{any_ended, any_found, any_passed}
use Rattle.xsd_wildcards.specs.Wildcards.{is_in}
use Rattle.xsd_wildcards.proofs.words.is_in.Goals as goal

pub returns-then-same : goal.returns-then-same
returns-then-same c = any_found c.one-item.result (bytes_eq c.args.text.now) c.args.texts.now c.loop-one.one-index c.same.result (is_in c.args.texts.now c.args.text.now) c.loop-one-test.true c.if-same.true (c.same.ensures.test ∙ ap (bytes_eq c.args.text.now) c.one-item.is) c.loop-one.invariant

pub loop-one-preserved : goal.loop-one-preserved
loop-one-preserved c = any_passed c.one-item.result (bytes_eq c.args.text.now) c.args.texts.now c.loop-one.one-index c.same.result (is_in c.args.texts.now c.args.text.now) c.loop-one-test.true c.if-same.false (c.same.ensures.test ∙ ap (bytes_eq c.args.text.now) c.one-item.is) c.loop-one.invariant

pub returns : goal.returns
returns c = any_ended (bytes_eq c.args.text.now) c.args.texts.now c.loop-one.one-index (is_in c.args.texts.now c.args.text.now) (omega arith) c.loop-one.invariant
