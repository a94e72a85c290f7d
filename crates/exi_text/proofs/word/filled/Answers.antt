use Rattle.std.proofs.Common.{arith}
use Rattle.exi_text.proofs.WordTests.{fill_is}
use Rattle.exi_text.proofs.word.filled.Goals as goal

pub overflow_add-result : goal.overflow_add-result
overflow_add-result c = let f = (fill_is c.args.word c.args.most (omega (arith, c.ranges.word.fits)) c.requires.some c.requires.few).0 in omega arith

pub returns : goal.returns
returns c = (fill_is c.args.word c.args.most (omega (arith, c.ranges.word.fits)) c.requires.some c.requires.few).1
