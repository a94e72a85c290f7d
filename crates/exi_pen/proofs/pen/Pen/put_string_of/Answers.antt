use Rattle.std.proofs.Common.{ap, ◌∙◌}
use Rattle.exi_names.specs.Seen.{seen}
use Rattle.exi_pen.proofs.Putting.{shown_text, string_last, text_spelled}
use Rattle.exi_pen.proofs.pen.Pen.put_string_of.Goals as goal

pub returns-in-Text : goal.returns-in-Text
returns-in-Text g c = record { put = string_last c.put_string.result (seen c.args.value.now) c.in-Text.text c.args.name c.args.self.now c.put_string.new.self c.args.toll.now c.put_string.new.toll (ap seen c.in-Text.is ∙ shown_text c.in-Text.text) c.put_string.ensures.put }

pub put_string-requires-clause-can : goal.put_string-requires-clause-can
put_string-requires-clause-can g c = text_spelled (seen c.args.value.now) c.in-Text.text (ap seen c.in-Text.is ∙ shown_text c.in-Text.text) c.requires.fits.spelled
