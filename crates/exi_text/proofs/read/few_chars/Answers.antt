use Rattle.std.proofs.Common.{◌≡◌, ◌+◌, ℕ, arith, refl, subst, replicate, take, []}
use Rattle.std.specs.Str.{IsAscii}
use Rattle.exi_bits.specs.Repeat.{times, with_front}
use Rattle.exi_text.specs.Literals.{code_at}
use Rattle.exi_text.proofs.Rooms.{no_ascii, run_added}
use Rattle.exi_text.proofs.Runs.{all_run}
use Rattle.exi_text.proofs.read.few_chars.Goals as goal

pub of_front-requires-clause-ascii : goal.of_front-requires-clause-ascii
of_front-requires-clause-ascii c =
    let k : 0 + c.lay_run-run.result ≡ c.lay_run-run.result = omega arith in
    subst (λ (n : ℕ). IsAscii (take n c.lay_run-run.new.room)) k (c.lay_run-run.ensures.ascii (no_ascii (replicate 40 0)))

pub returns-in-Ok-clause-read : goal.returns-in-Ok-clause-read
returns-in-Ok-clause-read c =
    let laid = c.lay_run-run.ensures in
    all_run c.in-Ok.text [] c.args.count c.lay_run-run.result c.args.input.now c.lay_run-run.new.input (omega (arith, laid.few, c.if-run-count.false)) refl
    (run_added [] c.in-Ok.text (replicate 40 0) c.lay_run-run.new.room c.args.count c.lay_run-run.result c.args.input.now c.lay_run-run.new.input (with_front [] (times code_at c.args.count c.args.input.now)) (laid.ascii (no_ascii (replicate 40 0))) c.in-Ok.ensures laid.read refl)
