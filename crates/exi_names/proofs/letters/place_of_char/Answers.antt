use Rattle.std.proofs.Common.{◌∙◌}
use Rattle.exi_names.proofs.Places.{searched_is}
use Rattle.exi_names.proofs.letters.place_of_char.Goals as goal

pub returns : goal.returns
returns c = c.ok.ensures.value ∙ searched_is c.args.c c.args.chars.now c.binary_search.result c.requires c.binary_search.ensures.position
