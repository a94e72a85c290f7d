use Rattle.std.proofs.Common.{◌++◌, ◌∙◌, ap, map}
use Rattle.std.proofs.lemmas.List.{take_all}
use Rattle.exi_gram.specs.Terminals.{rule}
use Rattle.exi_gram.specs.Wholes.{opening}
use Rattle.exi_compile.specs.Entries.{opened_as}
use Rattle.exi_compile.proofs.Produced.{twice_mapped}
use Rattle.exi_compile.proofs.wholes.push_globals.Goals as goal

pub returns : goal.returns
returns c =
    c.loop-element.invariant
    ∙ ap (λ z. map rule c.args.state.now ++ map (λ e. opening c.args.to (opened_as e)) z) (take_all c.loop-element.element-index c.args.elements.now c.loop-element-test.false)
    ∙ ap (λ z. map rule c.args.state.now ++ z) (twice_mapped (opening c.args.to) opened_as c.args.elements.now)
