use Rattle.std.proofs.Common.{ap, map, ◌∙◌}
use Rattle.exi_vocabulary.specs.Agreement.{all_same, of_element, shown}
use Rattle.exi_vocabulary.proofs.Agrees.{elements_agree}
use Rattle.exi_vocabulary.proofs.Words.{same_ok}
use Rattle.exi_vocabulary.proofs.agreement.agreeing_elements.Goals as goal

pub returns : goal.returns
returns c =
    same_ok _ _ c.agreeing.result
    (ap (λ ds. map (λ d. all_same d ds) ds) (ap (map shown) c.as_slice.ensures.value ∙ c.in_ok-declared.ensures ∙ ap (map of_element) c.elements.ensures.elements)
    ∙ elements_agree c.args.parts.now.elements)
    c.agreeing.ensures
