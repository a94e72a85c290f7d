use Rattle.std.proofs.Common.{None, [], ◌∷◌, refl}
use Rattle.exi_processing.specs.Rules.{start_document}
use Rattle.exi_choice.proofs.choice.choose_start.Goals as goal

pub returns-in-StartDocument : goal.returns-in-StartDocument
returns-in-StartDocument c = λ g l. rw c.in-StartDocument.is record {
  coded = record { parts = 0 ∷ []; item = record { on = start_document; to = 1; inner = None } };
  first = refl;
  rule = c.start.ensures.rule;
  parts = rw c.start.ensures.way refl;
  way = rw c.start.ensures.way refl;
}
