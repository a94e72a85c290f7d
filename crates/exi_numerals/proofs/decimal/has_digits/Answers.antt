use Rattle.exi_numerals.proofs.Parts.{any_front}
use Rattle.exi_numerals.proofs.decimal.has_digits.Goals as goal

pub returns-then-not-is_empty : goal.returns-then-not-is_empty
returns-then-not-is_empty c = any_front c.args.whole.now c.args.fraction.now c.is_empty.result c.is_empty.ensures c.if-not-is_empty.true
