use Rattle.std.proofs.Common.{◌≡◌, ◌<◌, ◌-◌, ℕ, List, true, false, length, take, get_or, sym, ap, ◌∙◌, arith}
use Rattle.exi_lexical.specs.Spaces.{is_space, without_back}
use Rattle.exi_lexical.proofs.Blanks.{cut_there, back_next, back_here, back_none}
use Rattle.exi_lexical.proofs.spaces.skip_back.Goals as goal
use Rattle.exi_lexical.proofs.spaces.skip_back.Goals.{then-loop-end-test+else-is_white, else-loop-end-test}

pub loop-end-preserved : goal.loop-end-preserved
loop-end-preserved c =
    let text = c.args.text.now in
    let bytes = c.as_bytes-bytes.result.now in
    let end = c.loop-end.end in
    let space : is_space (get_or bytes (end - 1) 0) ≡ true = sym c.is_white.ensures ∙ c.if-is_white.true in
    let same : is_space (get_or text (end - 1) 0) ≡ true = ap (λ (xs : List ℕ). is_space (get_or xs (end - 1) 0)) (sym c.loop-end.invariant.whole) ∙ space in
    let lt : end - 1 < length bytes = omega (arith, c.loop-end.invariant.within, c.loop-end-test.true, ap length c.loop-end.invariant.whole) in record {
      within = omega arith;
      same = back_next text end c.loop-end-test.true c.loop-end.invariant.within same ∙ c.loop-end.invariant.same;
      whole = c.loop-end.invariant.whole;
      boundary = cut_there text bytes (end - 1) c.loop-end.invariant.whole lt space;
    }

pub returns : goal.returns
returns c =
    let text = c.args.text.now in
    let end = c.loop-end.end in
    let kept : take end text ≡ without_back text = elim c.loop-end-test.branch [
      | then-loop-end-test+else-is_white w ↦
          let other : is_space (get_or text (end - 1) 0) ≡ false = ap (λ (xs : List ℕ). is_space (get_or xs (end - 1) 0)) (sym c.loop-end.invariant.whole) ∙ sym w.is_white.ensures ∙ w.if-is_white.false in
          sym (back_here text end w.loop-end-test.true c.loop-end.invariant.within other) ∙ c.loop-end.invariant.same
      | else-loop-end-test w ↦ sym (back_none text end (omega arith)) ∙ c.loop-end.invariant.same
    ] in
    c.split_at.ensures.front ∙ kept
