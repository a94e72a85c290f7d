use Rattle.std.proofs.Common.{◌∙◌, arith, refl, take}
use Rattle.std.specs.Str.{chars}
use Rattle.std.proofs.lemmas.Str.{IsUtf8-nil}
use Rattle.exi_bits.specs.Repeat.{times}
use Rattle.exi_text.specs.Literals.{code_at}
use Rattle.exi_text.proofs.Rooms.{room_begins, so_many}
use Rattle.exi_text.proofs.read.lay_here.Goals as goal

pub loop-last-init : goal.loop-last-init
loop-last-init c = record {
  so_far = room_begins c.args.room.now (times code_at c.args.most c.args.input.now);
  utf8 = IsUtf8-nil;
  end = omega arith;
  len = refl;
  within = omega arith;
  bytes = refl;
  phase = refl;
}

pub loop-last-preserved : goal.loop-last-preserved
loop-last-preserved c =
    let laid = c.lay_both-laid.ensures in
    let inv = c.loop-last.invariant in
    record {
      so_far = laid.read ∙ inv.so_far;
      utf8 = laid.utf8;
      end = omega (arith, laid.end, laid.len);
      len = laid.len ∙ inv.len;
      within = omega (arith, inv.within);
      bytes = laid.bytes ∙ inv.bytes;
      phase = laid.phase ∙ inv.phase;
    }

pub returns-clause-read : goal.returns-clause-read
returns-clause-read c = so_many (chars (take c.loop-last.end c.loop-last.room)) c.args.most c.loop-last.left c.loop-last.input (times code_at c.args.most c.args.input.now) c.loop-last.invariant.within c.loop-last.invariant.so_far
