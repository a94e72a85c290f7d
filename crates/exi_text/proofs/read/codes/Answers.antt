use Rattle.std.proofs.Common.{◌∙◌, subst}
use Rattle.exi_bits.specs.Unsigned.{Stops}
use Rattle.exi_text.proofs.Runs.{no_run}
use Rattle.exi_text.proofs.read.codes.Goals as goal

pub returns-clause-read : goal.returns-clause-read
returns-clause-read c = subst (λ r. Stops (λ none. c.add_others.new.text) c.add_others.result c.add_others.new.input r) (no_run c.reserve.new.self c.args.count c.args.input.now (c.in_ok-reserve.ensures ∙ c.requires.empty)) c.add_others.ensures.read
