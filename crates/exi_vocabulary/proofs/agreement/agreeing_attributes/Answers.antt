use Rattle.std.proofs.Common.{ap, map, ◌∙◌}
use Rattle.exi_vocabulary.specs.Agreement.{all_same, of_attribute, shown}
use Rattle.exi_vocabulary.proofs.Agrees.{attributes_agree}
use Rattle.exi_vocabulary.proofs.Words.{same_ok}
use Rattle.exi_vocabulary.proofs.agreement.agreeing_attributes.Goals as goal

pub returns : goal.returns
returns c =
    same_ok _ _ c.agreeing.result
    (ap (λ ds. map (λ d. all_same d ds) ds) (ap (map shown) c.as_slice.ensures.value ∙ c.in_ok-declared.ensures ∙ ap (map of_attribute) c.attributes.ensures.attributes)
    ∙ attributes_agree c.args.parts.now.attributes)
    c.agreeing.ensures
