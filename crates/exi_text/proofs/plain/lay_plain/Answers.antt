use Rattle.std.proofs.Common.{◌≤◌, ◌∙◌, List, ℕ, ap, arith, length, refl, subst, sym, take}
use Rattle.std.specs.Int.{to_be_bytes, w64}
use Rattle.std.specs.Str.{IsAscii}
use Rattle.exi_text.proofs.Rooms.{laid_front, none_ascii, none_more}
use Rattle.exi_text.proofs.Runs.{at_run, none_read, whole_read, word_begins}
use Rattle.exi_text.proofs.WordTests.{word_octets_plain}
use Rattle.exi_text.proofs.plain.lay_plain.Goals as goal

pub returns-in_default-clause-laid : goal.returns-in_default-clause-laid
returns-in_default-clause-laid c = none_more c.args.at c.args.room.now c.args.input.now

pub returns-in_default-clause-ascii : goal.returns-in_default-clause-ascii
returns-in_default-clause-ascii c = none_ascii c.args.input.now

pub returns-in_default-clause-read : goal.returns-in_default-clause-read
returns-in_default-clause-read c = rw c.in_default.ensures.read.1 (none_read c.args.input.now)

pub returns-then-is_plain_word-clause-laid : goal.returns-then-is_plain_word-clause-laid
returns-then-is_plain_word-clause-laid c =
    let w = word_begins 8 c.in-Some.word (to_be_bytes w64 c.in-Some.word) c.args.input.now c.take.new.self (omega arith) c.in-Some.ensures.read refl (word_octets_plain c.in-Some.word (to_be_bytes w64 c.in-Some.word) (omega (arith, c.in-Some.ensures.below)) refl (sym c.is_plain_word.ensures ∙ c.if-is_plain_word.true)) in
    laid_front c.args.at 8 c.lay.result c.args.room.now c.lay.new.room c.to_be_bytes.result _ c.lay.ensures.behind c.lay.ensures.laid (omega (arith, c.requires.room)) (omega (arith, ap length c.to_be_bytes.ensures, w.long)) (ap (λ (os : List ℕ). take 8 os) c.to_be_bytes.ensures ∙ w.text)

pub returns-then-is_plain_word-clause-ascii : goal.returns-then-is_plain_word-clause-ascii
returns-then-is_plain_word-clause-ascii c =
    let w = word_begins 8 c.in-Some.word (to_be_bytes w64 c.in-Some.word) c.args.input.now c.take.new.self (omega arith) c.in-Some.ensures.read refl (word_octets_plain c.in-Some.word (to_be_bytes w64 c.in-Some.word) (omega (arith, c.in-Some.ensures.below)) refl (sym c.is_plain_word.ensures ∙ c.if-is_plain_word.true)) in
    subst (λ (os : List ℕ). IsAscii os) w.text w.ascii

pub returns-then-is_plain_word-clause-read : goal.returns-then-is_plain_word-clause-read
returns-then-is_plain_word-clause-read c =
    let w = word_begins 8 c.in-Some.word (to_be_bytes w64 c.in-Some.word) c.args.input.now c.take.new.self (omega arith) c.in-Some.ensures.read refl (word_octets_plain c.in-Some.word (to_be_bytes w64 c.in-Some.word) (omega (arith, c.in-Some.ensures.below)) refl (sym c.is_plain_word.ensures ∙ c.if-is_plain_word.true)) in
    whole_read c.args.input.now c.take.new.self w.read c.in-Some.ensures.place

pub returns-clause-laid : goal.returns-clause-laid
returns-clause-laid c =
    let few : c.plain_run.result ≤ 7 = omega (arith, c.plain_run.ensures.part) in
    let w = word_begins c.plain_run.result c.in-Some.word (to_be_bytes w64 c.in-Some.word) c.args.input.now c.take.new.self (omega (arith, few)) c.in-Some.ensures.read refl c.plain_run.ensures.plain in
    rw c.from-run.ensures (laid_front c.args.at c.plain_run.result c.lay.result c.args.room.now c.lay.new.room c.to_be_bytes.result _ c.lay.ensures.behind c.lay.ensures.laid (omega (arith, c.requires.room)) (omega (arith, ap length c.to_be_bytes.ensures, w.long)) (ap (λ (os : List ℕ). take c.plain_run.result os) c.to_be_bytes.ensures ∙ w.text))

pub returns-clause-ascii : goal.returns-clause-ascii
returns-clause-ascii c =
    let few : c.plain_run.result ≤ 7 = omega (arith, c.plain_run.ensures.part) in
    let w = word_begins c.plain_run.result c.in-Some.word (to_be_bytes w64 c.in-Some.word) c.args.input.now c.take.new.self (omega (arith, few)) c.in-Some.ensures.read refl c.plain_run.ensures.plain in
    rw c.from-run.ensures (subst (λ (os : List ℕ). IsAscii os) w.text w.ascii)

pub returns-clause-read : goal.returns-clause-read
returns-clause-read c =
    let few : c.plain_run.result ≤ 7 = omega (arith, c.plain_run.ensures.part) in
    let w = word_begins c.plain_run.result c.in-Some.word (to_be_bytes w64 c.in-Some.word) c.args.input.now c.take.new.self (omega (arith, few)) c.in-Some.ensures.read refl c.plain_run.ensures.plain in
    rw c.from-run.ensures (at_run c.plain_run.result c.args.input.now c.go_to_bit.new.self c.at-behind.result w.read (omega (arith, few)) (rw c.in-Some.ensures.place at c.at-behind.ensures.place) (rw (c.in-Some.ensures.place, c.from-run.ensures) at c.go_to_bit.ensures))
