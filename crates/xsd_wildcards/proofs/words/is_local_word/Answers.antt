use Rattle.std.proofs.Common.{ap, ◌∙◌}
use Rattle.std.specs.Str.{bytes_eq}
use Rattle.xsd_wildcards.proofs.Texts.{local_chars}
use Rattle.xsd_wildcards.proofs.words.is_local_word.Goals as goal

pub returns : goal.returns
returns c = c.is_text.ensures ∙ ap (bytes_eq c.args.word.now) local_chars
