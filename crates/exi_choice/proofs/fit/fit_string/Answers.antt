use Rattle.std.proofs.Common.{ap, ◌∙◌}
use Rattle.exi_names.specs.Seen.{seen}
use Rattle.exi_choice.proofs.Strings.{text_own, text_seen}
use Rattle.exi_choice.proofs.fit.fit_string.Goals as goal

pub returns-in-Text : goal.returns-in-Text
returns-in-Text c = c.own_fit.ensures ∙ text_own (seen c.args.value.now) c.in-Text.field-0 (ap seen c.in-Text.is ∙ text_seen c.in-Text.field-0)
