use Rattle.std.proofs.Common.{◌∙◌, arith, refl, sym}
use Rattle.std.specs.Int.{to_be_bytes, w64}
use Rattle.exi_text.proofs.WordTests.{first_octets_plain}
use Rattle.exi_text.proofs.plain.plain_run.Goals as goal

pub returns-then-is_plain_word-clause-plain : goal.returns-then-is_plain_word-clause-plain
returns-then-is_plain_word-clause-plain c = first_octets_plain c.filled.result c.args.word c.min-most.result (to_be_bytes w64 c.args.word) (omega (arith, c.filled.type_inv)) refl c.filled.ensures (omega (arith, c.if-most-lt8.true)) (sym c.is_plain_word.ensures ∙ c.if-is_plain_word.true)

pub returns-then-is_plain_word-2-clause-plain : goal.returns-then-is_plain_word-2-clause-plain
returns-then-is_plain_word-2-clause-plain c = first_octets_plain c.filled-2.result c.args.word c.min-run.result (to_be_bytes w64 c.args.word) (omega (arith, c.filled-2.type_inv)) refl c.filled-2.ensures (omega (arith, c.min-run.ensures)) (sym c.is_plain_word-2.ensures ∙ c.if-is_plain_word-2.true)

pub returns-clause-plain : goal.returns-clause-plain
returns-clause-plain c = c.plain_front.ensures.plain
