use Rattle.std.proofs.Common.{◌-◌, ◌∙◌, ap, arith, take}
use Rattle.std.specs.Str.{chars}
use Rattle.exi_bits.specs.Repeat.{times, with_front}
use Rattle.exi_text.specs.Literals.{code_at}
use Rattle.exi_text.proofs.Rooms.{room_added, so_many}
use Rattle.exi_text.proofs.read.add_short.Goals as goal

pub loop-last-preserved : goal.loop-last-preserved
loop-last-preserved c =
    let laid = c.lay_some-laid.ensures in
    let inv = c.loop-last.invariant in
    record {
      so_far = room_added c.loop-last.text (chars (take c.lay_some-laid.result.end c.lay_some-laid.new.room)) c.push_room.new.text (times code_at (c.loop-last.left - c.lay_some-laid.result.count) c.lay_some-laid.new.input) (with_front c.args.text.now (times code_at c.args.most c.args.input.now)) c.in_ok-push_room.ensures.ok (ap (λ x. with_front c.loop-last.text x) laid.read ∙ inv.so_far);
      len = laid.len ∙ inv.len;
      within = omega (arith, inv.within);
      bytes = laid.bytes ∙ inv.bytes;
      phase = laid.phase ∙ inv.phase;
    }

pub returns-clause-read : goal.returns-clause-read
returns-clause-read c = so_many c.loop-last.text c.args.most c.loop-last.left c.loop-last.input (with_front c.args.text.now (times code_at c.args.most c.args.input.now)) c.loop-last.invariant.within c.loop-last.invariant.so_far
