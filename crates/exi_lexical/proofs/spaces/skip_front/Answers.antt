use Rattle.std.proofs.Common.{sym, ap, ◌∙◌}
use Rattle.std.proofs.lemmas.Str.{IsCharBoundary-start}
use Rattle.exi_lexical.specs.Spaces.{without_front}
use Rattle.exi_lexical.proofs.Blanks.{cut_behind, front_next}
use Rattle.exi_lexical.proofs.spaces.skip_front.Goals as goal

pub loop-index-init : goal.loop-index-init
loop-index-init c = record {
  same = ap without_front c.as_bytes-bytes.ensures.value;
  whole = c.as_bytes-bytes.ensures.value;
  boundary = IsCharBoundary-start c.args.text.now c.utf8.text;
}

pub loop-index-preserved : goal.loop-index-preserved
loop-index-preserved c =
    let space = sym c.is_white.ensures ∙ c.if-not-is_white.false in record {
      same = front_next c.as_bytes-bytes.result.now c.loop-index.index c.loop-index-test.true space ∙ c.loop-index.invariant.same;
      whole = c.loop-index.invariant.whole;
      boundary = cut_behind c.args.text.now c.as_bytes-bytes.result.now c.loop-index.index c.utf8.text c.loop-index.invariant.whole c.loop-index-test.true space;
    }
