use Rattle.std.proofs.Common.{ap, ◌∙◌}
use Rattle.std.specs.Str.{bytes_eq}
use Rattle.xsd_wildcards.proofs.Texts.{target_chars}
use Rattle.xsd_wildcards.proofs.words.is_target_word.Goals as goal

pub returns : goal.returns
returns c = c.is_text.ensures ∙ ap (bytes_eq c.args.word.now) target_chars
