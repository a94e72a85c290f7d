use Rattle.std.proofs.Common.{◌∙◌, ℕ, add-zero, arith, refl, subst, sym, take}
use Rattle.std.specs.Str.{IsAscii, IsUtf8}
use Rattle.exi_text.proofs.Rooms.{further_ascii, further_laid, further_utf8, laid_none}
use Rattle.exi_text.proofs.read.lay_run.Goals as goal

pub loop-last-init : goal.loop-last-init
loop-last-init c = record {
  so_far = laid_none c.args.at c.args.most c.args.room.now c.args.input.now;
  utf8 = subst (λ (n : ℕ). IsUtf8 (take n c.args.room.now)) (sym (add-zero c.args.at)) c.requires.utf8;
  ascii = λ a. subst (λ (n : ℕ). IsAscii (take n c.args.room.now)) (sym (add-zero c.args.at)) a;
  within = omega arith;
  end = omega (arith, c.requires.room);
  len = refl;
  bytes = refl;
  phase = refl;
}

pub loop-last-preserved : goal.loop-last-preserved
loop-last-preserved c =
    let laid = c.lay_plain-last.ensures in
    let inv = c.loop-last.invariant in
    record {
      so_far = further_laid c.args.at c.loop-last.count c.lay_plain-last.result c.args.most c.loop-last.room c.lay_plain-last.new.room c.loop-last.input c.lay_plain-last.new.input inv.utf8 laid.ascii laid.laid (omega (arith, laid.word, c.if-count-words.true)) laid.read ∙ inv.so_far;
      utf8 = further_utf8 c.args.at c.loop-last.count c.lay_plain-last.result c.loop-last.room c.lay_plain-last.new.room c.loop-last.input inv.utf8 laid.ascii laid.laid;
      ascii = λ a. further_ascii c.args.at c.loop-last.count c.lay_plain-last.result c.loop-last.room c.lay_plain-last.new.room c.loop-last.input (inv.ascii a) laid.ascii laid.laid;
      within = omega (arith, inv.within, laid.word, c.if-count-words.true);
      end = omega (arith, laid.word, laid.len, inv.len, c.if-count-words.true);
      len = laid.len ∙ inv.len;
      bytes = laid.bytes ∙ inv.bytes;
      phase = laid.phase ∙ inv.phase;
    }

pub returns-clause-utf8 : goal.returns-clause-utf8
returns-clause-utf8 c =
    let laid = c.lay_plain.ensures in
    further_utf8 c.args.at c.loop-last.count c.lay_plain.result c.loop-last.room c.lay_plain.new.room c.loop-last.input c.loop-last.invariant.utf8 laid.ascii laid.laid

pub returns-clause-ascii : goal.returns-clause-ascii
returns-clause-ascii c =
    let laid = c.lay_plain.ensures in
    λ a. further_ascii c.args.at c.loop-last.count c.lay_plain.result c.loop-last.room c.lay_plain.new.room c.loop-last.input (c.loop-last.invariant.ascii a) laid.ascii laid.laid

pub returns-clause-read : goal.returns-clause-read
returns-clause-read c =
    let laid = c.lay_plain.ensures in
    further_laid c.args.at c.loop-last.count c.lay_plain.result c.args.most c.loop-last.room c.lay_plain.new.room c.loop-last.input c.lay_plain.new.input c.loop-last.invariant.utf8 laid.ascii laid.laid laid.few laid.read ∙ c.loop-last.invariant.so_far
