use Rattle.std.proofs.lemmas.Str.{chars-nil}
use Rattle.std.proofs.Common.{ap, ◌∙◌}
use Rattle.std.specs.Str.{chars}
use Rattle.exi_names.proofs.Texts.{front_chars, front_utf8, nothing_utf8, on_err}
use Rattle.std.specs.Prelude.{take}
use Rattle.exi_names.proofs.Together.{plain_ascii}
use Rattle.exi_names.proofs.txt.Txt.refill.Goals as goal

pub invariant_of-self : goal.invariant_of-self
invariant_of-self c = nothing_utf8 c.refill.new.self c.in_err-refill.ensures.err

pub returns-in_err-refill-clause-err : goal.returns-in_err-refill-clause-err
returns-in_err-refill-clause-err c = on_err c.from_residual.result (ap chars c.in_err-refill.ensures.err ∙ chars-nil)

pub invariant_of-self-2 : goal.invariant_of-self-2
invariant_of-self-2 c = front_utf8 c.args.count c.args.bytes.now c.refill.new.self (plain_ascii (take c.args.count c.args.bytes.now) c.requires.plain) c.in_ok-refill.ensures.ok

pub returns-clause-ok : goal.returns-clause-ok
returns-clause-ok c = front_chars c.args.count c.args.bytes.now c.refill.new.self (plain_ascii (take c.args.count c.args.bytes.now) c.requires.plain) c.in_ok-refill.ensures.ok
