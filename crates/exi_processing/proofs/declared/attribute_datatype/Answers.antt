use Rattle.std.proofs.Common.{◌≡◌, Option, Some, None, refl, ◌∙◌}
use Rattle.exi_names.specs.declared.datatype.Datatype.{Datatype}
use Rattle.exi_gram.specs.Globals.{represented_by}
use Rattle.exi_processing.specs.Handing.{datatype_in}
use Rattle.exi_processing.proofs.declared.attribute_datatype.Goals as goal

told_is : (d : Option Datatype) → datatype_in d ≡ represented_by d
told_is None = refl
told_is (Some d) = refl

pub returns : goal.returns
returns c = told_is _ ∙ c.attribute_datatype.ensures
