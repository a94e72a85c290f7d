use Rattle.std.proofs.Common.{sym, ap, ◌∙◌}
use Rattle.exi_lexical.specs.Spaces.{is_space}
use Rattle.exi_lexical.proofs.Blanks.{no_space_next}
use Rattle.xsd_derivations.proofs.Items.{item_is}
use Rattle.xsd_derivations.proofs.union_members.cut.Goals as goal

pub loop-index-preserved : goal.loop-index-preserved
loop-index-preserved c =
    no_space_next c.args.letters.now c.loop-index.index c.loop-index-test.true c.loop-index.invariant
    (ap is_space (item_is c.args.letters.now c.loop-index.index c.index-letters-index.result c.loop-index-test.true c.index-letters-index.is) ∙ sym c.is_white.ensures ∙ c.if-is_white.false)
