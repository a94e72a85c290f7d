use Rattle.std.proofs.Common.{◌+◌, ap, sym, ◌∙◌}
use Rattle.exi_compile.proofs.Marks.{unions_ended, unions_on, with_union, without_union}
use Rattle.exi_compile.proofs.casts.mark_unions.Goals as goal
use Rattle.exi_compile.proofs.casts.mark_unions.Goals.{then-is_union, else-is_union}

pub loop-place-preserved : goal.loop-place-preserved
loop-place-preserved c =
    let ts = c.args.types.now in
    let t = c.index-types-place.result in
    let before = c.loop-place.marks in record {
      long = c.if-is_union.auto.marks ∙ c.loop-place.invariant.long;
      so_far = elim c.if-is_union.branch [
        | then-is_union w ↦
            with_union ts before c.if-is_union.marks _ c.loop-place.place t c.loop-place.invariant.long c.loop-place-test.true c.index-types-place.is (sym c.is_union.ensures ∙ w.if-is_union.true) w.marks-is c.loop-place.invariant.so_far
        | else-is_union w ↦
            ap (unions_on (c.loop-place.place + 1) ts) w.marks-is
            ∙ without_union ts before _ c.loop-place.place t c.loop-place.invariant.long c.loop-place-test.true c.index-types-place.is (sym c.is_union.ensures ∙ w.if-is_union.false) c.loop-place.invariant.so_far
      ];
    }

pub returns : goal.returns
returns c = unions_ended c.args.types.now c.loop-place.marks _ c.loop-place.place c.loop-place.invariant.long c.loop-place-test.false c.loop-place.invariant.so_far
