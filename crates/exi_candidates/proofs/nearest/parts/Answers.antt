use Rattle.std.proofs.Common.{◌∙◌}
use Rattle.exi_candidates.proofs.Members.{parts_in}
use Rattle.exi_candidates.proofs.nearest.parts.Goals as goal

pub returns : goal.returns
returns c = c.parts.ensures ∙ parts_in c.args.coded.now c.args.place c.index-coded-place.result c.requires.there
