use Rattle.std.proofs.Common.{◌+◌, arith, take}
use Rattle.std.specs.Char.{encode_utf8}
use Rattle.std.proofs.lemmas.Str.{IsUtf8-encode}
use Rattle.exi_text.proofs.Rooms.{char_laid, laid_utf8}
use Rattle.exi_text.proofs.read.lay_both.Goals as goal

pub returns-in-None-clause-read : goal.returns-in-None-clause-read
returns-in-None-clause-read c = rw c.in-None.ensures.read c.lay_run-run.ensures.read

pub returns-in-Some-clause-utf8 : goal.returns-in-Some-clause-utf8
returns-in-Some-clause-utf8 c = laid_utf8 (take (c.args.at + c.lay_run-run.result) c.lay_run-run.new.room) (encode_utf8 c.in-Some.c) (take c.lay_char.result c.lay_char.new.room) c.lay_run-run.ensures.utf8 (IsUtf8-encode c.in-Some.c c.lay_char.ensures.scalar) c.lay_char.ensures.laid

pub returns-in-Some-clause-read : goal.returns-in-Some-clause-read
returns-in-Some-clause-read c = char_laid (take c.args.at c.args.room.now) (take (c.args.at + c.lay_run-run.result) c.lay_run-run.new.room) c.args.most c.lay_run-run.result c.args.input.now c.lay_run-run.new.input (take c.lay_char.result c.lay_char.new.room) c.in-Some.c c.short_code.new.input c.lay_run-run.ensures.utf8 c.lay_char.ensures.scalar c.lay_char.ensures.laid (omega (arith, c.lay_run-run.ensures.few, c.if-run-most.false)) c.in-Some.ensures.read c.lay_run-run.ensures.read
