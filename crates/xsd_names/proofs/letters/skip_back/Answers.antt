use Rattle.std.proofs.Common.{◌≡◌, ◌<◌, ◌-◌, true, false, length, get_or, sym, ap, ◌∙◌, arith}
use Rattle.exi_lexical.specs.Spaces.{is_space}
use Rattle.exi_lexical.proofs.Blanks.{back_here, back_next, back_none}
use Rattle.xsd_names.proofs.Items.{item_is}
use Rattle.xsd_names.proofs.letters.skip_back.Goals as goal
use Rattle.xsd_names.proofs.letters.skip_back.Goals.{then-loop-end-test+else-is_white, else-loop-end-test}

pub loop-end-preserved : goal.loop-end-preserved
loop-end-preserved c =
    let letters = c.args.letters.now in
    let end = c.loop-end.end in
    let less : end - 1 < length letters = omega (arith, c.loop-end.invariant.within, c.loop-end-test.true) in
    let space : is_space (get_or letters (end - 1) 0) ≡ true = ap is_space (item_is letters (end - 1) c.index-letters-end.result less c.index-letters-end.is) ∙ sym c.is_white.ensures ∙ c.if-is_white.true in record {
      within = omega (arith, c.loop-end.invariant.within);
      same = back_next letters end c.loop-end-test.true c.loop-end.invariant.within space ∙ c.loop-end.invariant.same;
    }

pub returns : goal.returns
returns c =
    let letters = c.args.letters.now in
    let end = c.loop-end.end in elim c.loop-end-test.branch [
      | then-loop-end-test+else-is_white w ↦
          let less : end - 1 < length letters = omega (arith, c.loop-end.invariant.within, w.loop-end-test.true) in
          let other : is_space (get_or letters (end - 1) 0) ≡ false = ap is_space (item_is letters (end - 1) w.index-letters-end.result less w.index-letters-end.is) ∙ sym w.is_white.ensures ∙ w.if-is_white.false in
          sym (back_here letters end w.loop-end-test.true c.loop-end.invariant.within other) ∙ c.loop-end.invariant.same
      | else-loop-end-test w ↦ sym (back_none letters end (omega arith)) ∙ c.loop-end.invariant.same
    ]
