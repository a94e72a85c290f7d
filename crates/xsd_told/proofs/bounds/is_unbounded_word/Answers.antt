use Rattle.std.proofs.Common.{ap, ◌∙◌}
use Rattle.std.specs.Str.{bytes_eq}
use Rattle.xsd_told.proofs.Texts.{unbounded_chars}
use Rattle.xsd_told.proofs.bounds.is_unbounded_word.Goals as goal

pub returns : goal.returns
returns c = c.is_text.ensures ∙ ap (bytes_eq c.args.word.now) unbounded_chars
