use Rattle.std.proofs.Common.{◌≡◌, ◌+◌, ◌∙◌, ℕ, arith, subst, take}
use Rattle.std.specs.Str.{IsAscii}
use Rattle.exi_bits.specs.Repeat.{times, with_front}
use Rattle.exi_text.specs.Literals.{code_at}
use Rattle.exi_text.proofs.Rooms.{no_ascii, run_added, so_many}
use Rattle.exi_text.proofs.read.add_run.Goals as goal

pub push_ascii-requires : goal.push_ascii-requires
push_ascii-requires c =
    let k : 0 + c.lay_run-run.result ≡ c.lay_run-run.result = omega arith in
    record { ascii = subst (λ (n : ℕ). IsAscii (take n c.lay_run-run.new.room)) k (c.lay_run-run.ensures.ascii (no_ascii c.loop-run.room)) }

pub loop-run-preserved : goal.loop-run-preserved
loop-run-preserved c =
    let laid = c.lay_run-run.ensures in
    let inv = c.loop-run.invariant in
    record {
      so_far = run_added c.loop-run.text c.push_ascii.new.self c.loop-run.room c.lay_run-run.new.room c.loop-run.left c.lay_run-run.result c.loop-run.input c.lay_run-run.new.input (with_front c.args.text.now (times code_at c.args.most c.args.input.now)) (laid.ascii (no_ascii c.loop-run.room)) c.in_ok-push_ascii.ensures.ok laid.read inv.so_far;
      len = laid.len ∙ inv.len;
      within = omega (arith, inv.within);
      bytes = laid.bytes ∙ inv.bytes;
      phase = laid.phase ∙ inv.phase;
    }

pub returns-clause-read : goal.returns-clause-read
returns-clause-read c = so_many c.loop-run.text c.args.most c.loop-run.left c.loop-run.input (with_front c.args.text.now (times code_at c.args.most c.args.input.now)) c.loop-run.invariant.within c.loop-run.invariant.so_far
