use Rattle.std.proofs.Common.{ap, ◌∙◌}
use Rattle.std.specs.Str.{bytes_eq}
use Rattle.xsd_wildcards.proofs.Texts.{any_chars}
use Rattle.xsd_wildcards.proofs.words.is_any_word.Goals as goal

pub returns : goal.returns
returns c = c.is_text.ensures ∙ ap (bytes_eq c.args.word.now) any_chars
