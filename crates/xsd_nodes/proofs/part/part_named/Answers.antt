use Rattle.std.proofs.Common.{arith}
use Rattle.xsd_nodes.specs.PartNames.{part_named}
use Rattle.xsd_nodes.proofs.Words.{part_ended, part_found, part_passed}
use Rattle.xsd_nodes.proofs.part.part_named.Goals as goal

pub returns-then-is_text : goal.returns-then-is_text
returns-then-is_text c = part_found _ c.args.name.now c.words-words.result.now c.loop-word.word-index c.is_text.result (part_named c.args.name.now) c.words-words.ensures c.loop-word-test.true c.if-is_text.true c.is_text.ensures c.loop-word.invariant

pub loop-word-preserved : goal.loop-word-preserved
loop-word-preserved c = part_passed _ c.args.name.now c.words-words.result.now c.loop-word.word-index c.is_text.result (part_named c.args.name.now) c.words-words.ensures c.loop-word-test.true c.if-is_text.false c.is_text.ensures c.loop-word.invariant

pub returns : goal.returns
returns c = part_ended c.args.name.now c.words-words.result.now c.loop-word.word-index (part_named c.args.name.now) c.words-words.ensures (omega arith) c.loop-word.invariant
