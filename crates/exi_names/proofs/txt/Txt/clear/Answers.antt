use Rattle.std.proofs.lemmas.Str.{chars-nil}
use Rattle.exi_names.proofs.Texts.{nothing_utf8}
use Rattle.exi_names.proofs.txt.Txt.clear.Goals as goal

pub invariant_of-self : goal.invariant_of-self
invariant_of-self c = nothing_utf8 c.clear.new.self c.clear.ensures

pub returns : goal.returns
returns c = rw c.clear.ensures chars-nil
