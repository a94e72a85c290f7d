use Rattle.std.proofs.Common.{◌≡◌, ◌∙◌, ◌-◌, Ok}
use Rattle.exi_bits.specs.Repeat.{times, with_front}
use Rattle.exi_text.specs.Literals.{code_at}
use Rattle.exi_text.proofs.Runs.{all_run, on_true, run_others}
use Rattle.exi_text.proofs.read.codes_added.Goals as goal

pub returns-then-run-count-clause-read : goal.returns-then-run-count-clause-read
returns-then-run-count-clause-read c = all_run c.add_run.new.text c.reserve.new.self c.args.count c.in-Ok-add_run.run' c.args.input.now c.add_run.new.input c.if-run-count.true (c.in-Ok.ensures ∙ c.requires.empty) c.in-Ok-add_run.ensures.read

pub returns-clause-read : goal.returns-clause-read
returns-clause-read c = on_true c.others_added.result (with_front c.add_run.new.text (times code_at (c.args.count - c.in-Ok-add_run.run') c.add_run.new.input) ≡ Ok (c.others_added.new.text, c.others_added.new.input)) (times code_at c.args.count c.args.input.now ≡ Ok (c.others_added.new.text, c.others_added.new.input)) (λ others. run_others c.others_added.new.text c.add_run.new.text c.reserve.new.self c.args.count c.in-Ok-add_run.run' c.args.input.now c.add_run.new.input c.others_added.new.input (c.in-Ok.ensures ∙ c.requires.empty) c.in-Ok-add_run.ensures.read others) c.others_added.ensures.read
