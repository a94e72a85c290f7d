use Rattle.std.proofs.Common.{ap, ◌∙◌}
use Rattle.exi_lexical.specs.Spaces.{without_back}
use Rattle.exi_lexical.proofs.Letters.{chars_trimmed}
use Rattle.exi_lexical.proofs.spaces.trim.Goals as goal

pub returns : goal.returns
returns c = chars_trimmed c.args.text.now c.skip_back.result.now c.utf8.text c.skip_back.utf8 (c.skip_back.ensures ∙ ap without_back c.skip_front.ensures)
