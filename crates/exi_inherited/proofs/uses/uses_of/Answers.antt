use Rattle.std.proofs.Common.{ap, ◌∙◌}
use Rattle.exi_gram.specs.Orders.{in_order}
use Rattle.exi_inherited.specs.Told.{left_of}
use Rattle.exi_inherited.specs.Uses.{said_in, use_before}
use Rattle.exi_inherited.proofs.Telling.{left_is}
use Rattle.exi_inherited.proofs.uses.uses_of.Goals as goal

pub returns : goal.returns
returns c =
    c.in_ok-ordered.ensures
    ∙ ap (in_order (use_before c.args.parts.now)) (c.as_slice.ensures.value ∙ c.in_ok-uses.ensures ∙ ap left_of c.in_ok-told.ensures ∙ left_is (said_in c.args.parts.now c.args.of))
