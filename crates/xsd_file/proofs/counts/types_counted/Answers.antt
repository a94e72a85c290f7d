use Rattle.std.proofs.Common.{refl, ap, ◌∙◌, drop, filter, length}
use Rattle.xsd_file.specs.Counts.{has_name, is_named}
use Rattle.xsd_file.proofs.Counted.{named_same}
use Rattle.xsd_known.specs.Words.{type_seen}
use Rattle.xsd_file.proofs.counts.types_counted.Goals as goal

pub returns : goal.returns
returns c =
    c.named.ensures
    ∙ ap (λ t. length (filter has_name t)) (c.behind_built_in.ensures ∙ ap (λ t. drop 46 t) c.types.ensures.types)
    ∙ named_same (type_seen c.args.components.now.forms) is_named has_name (λ t. refl) 46 c.args.components.now.types
