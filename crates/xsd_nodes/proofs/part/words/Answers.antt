use Rattle.std.proofs.Common.{refl}
use Rattle.std.specs.Str.{chars}
use Rattle.xsd_nodes.specs.PartNames.{part_words}
use Rattle.xsd_nodes.proofs.part.words.Goals as goal

pub returns : goal.returns
unfolding chars part_words
returns c = refl
