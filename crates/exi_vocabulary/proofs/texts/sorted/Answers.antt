use Rattle.std.proofs.Common.{ap, ◌∙◌}
use Rattle.std.proofs.lemmas.List.{take_all}
use Rattle.exi_gram.specs.Orders.{in_order, text_before}
use Rattle.exi_vocabulary.proofs.InTheirOrder.{refs_sorted}
use Rattle.exi_vocabulary.proofs.texts.sorted.Goals as goal

pub returns : goal.returns
returns c =
    refs_sorted _ _ c.in_ok-sort.ensures.sorted c.in_ok-sort.ensures.stable
    ∙ ap (in_order text_before) (c.loop-text.invariant ∙ take_all c.loop-text.text-index c.args.texts.now c.loop-text-test.false)
