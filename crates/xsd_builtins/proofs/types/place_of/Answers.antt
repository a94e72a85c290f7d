use Rattle.std.proofs.Common.{arith}
use Rattle.xsd_builtins.specs.BuiltIns.{built_in}
use Rattle.xsd_builtins.proofs.Words.{ended, found, passed}
use Rattle.xsd_builtins.proofs.types.place_of.Goals as goal

pub returns-then-is_word : goal.returns-then-is_word
returns-then-is_word c = found _ c.args.name.now c.names-words.result.now c.loop-place.place c.is_word.result (built_in c.args.name.now) c.names-words.ensures.names c.loop-place-test.true c.if-is_word.true c.is_word.ensures c.loop-place.invariant

pub loop-place-preserved : goal.loop-place-preserved
loop-place-preserved c = passed _ c.args.name.now c.names-words.result.now c.loop-place.place c.is_word.result (built_in c.args.name.now) c.names-words.ensures.names c.loop-place-test.true c.if-is_word.false c.is_word.ensures c.loop-place.invariant

pub returns : goal.returns
returns c = ended c.args.name.now c.names-words.result.now c.loop-place.place (built_in c.args.name.now) c.names-words.ensures.names (omega arith) c.loop-place.invariant
