use Rattle.std.proofs.Common.{◌∙◌, arith}
use Rattle.exi_text.proofs.ShortCodes.{one_code, three_code, two_code}
use Rattle.exi_text.proofs.read.short_code.Goals as goal

pub returns-in-Some-xml_char-clause-read : goal.returns-in-Some-xml_char-clause-read
returns-in-Some-xml_char-clause-read c = one_code c.in-Some.word c.to_be_bytes-octets.result c.args.input.now c.take.new.self c.go_to_bit.new.self c.in-Some-xml_char.c c.from-first.result c.from-second.result c.from-third.result c.at-behind.result c.in-Some.ensures.read c.to_be_bytes-octets.ensures c.from-first.ensures (omega (arith, c.if-first-lt128.true)) (c.in-Some-xml_char.ensures.some.0 ∙ c.from.ensures) (rw c.from.ensures at c.in-Some-xml_char.ensures.some.1) (rw c.in-Some.ensures.place at c.at-behind.ensures.place) c.in-Some.ensures.place c.go_to_bit.ensures

pub returns-in-Some-xml_char-2-clause-read : goal.returns-in-Some-xml_char-2-clause-read
returns-in-Some-xml_char-2-clause-read c = two_code c.in-Some.word c.to_be_bytes-octets.result c.args.input.now c.take.new.self c.go_to_bit-in-Some-xml_char-2.new.self c.in-Some-xml_char-2.c c.from-first.result c.from-second.result c.from-third.result c.at-behind.result c.in-Some.ensures.read c.to_be_bytes-octets.ensures c.from-first.ensures c.from-second.ensures (omega (arith, c.if-first-lt128.false)) (omega (arith, c.if-second-lt128.true)) (c.in-Some-xml_char-2.ensures.some.0 ∙ c.from-then-second-lt128.ensures) (rw c.from-then-second-lt128.ensures at c.in-Some-xml_char-2.ensures.some.1) (rw c.in-Some.ensures.place at c.at-behind.ensures.place) c.in-Some.ensures.place c.go_to_bit-in-Some-xml_char-2.ensures

pub returns-in-Some-xml_char-3-clause-read : goal.returns-in-Some-xml_char-3-clause-read
returns-in-Some-xml_char-3-clause-read c = three_code c.in-Some.word c.to_be_bytes-octets.result c.args.input.now c.take.new.self c.go_to_bit-in-Some-xml_char-3.new.self c.in-Some-xml_char-3.c c.from-first.result c.from-second.result c.from-third.result c.at-behind.result c.in-Some.ensures.read c.to_be_bytes-octets.ensures c.from-first.ensures c.from-second.ensures c.from-third.ensures (omega (arith, c.if-first-lt128.false)) (omega (arith, c.if-second-lt128.false)) (omega (arith, c.if-third-lt128.true)) (c.in-Some-xml_char-3.ensures.some.0 ∙ c.from-then-third-lt128.ensures) (rw c.from-then-third-lt128.ensures at c.in-Some-xml_char-3.ensures.some.1) (rw c.in-Some.ensures.place at c.at-behind.ensures.place) c.in-Some.ensures.place c.go_to_bit-in-Some-xml_char-3.ensures
