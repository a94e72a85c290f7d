use Rattle.std.proofs.Common.{sym, ◌∙◌, subst}
use Rattle.std.proofs.lemmas.Str.{IsUtf8-take, IsUtf8-drop}
use Rattle.std.specs.Str.{IsUtf8}
use Rattle.exi_lexical.proofs.Blanks.{cut_there, no_space_next}
use Rattle.exi_lexical.proofs.spaces.cut.Goals as goal

pub split_at-requires : goal.split_at-requires
split_at-requires c =
    cut_there c.args.text.now c.as_bytes-bytes.result.now c.loop-index.index c.loop-index.invariant.whole c.loop-index-test.true (sym c.is_white.ensures ∙ c.if-is_white.true)

pub returns-then-is_white-clause-texts : goal.returns-then-is_white-clause-texts
returns-then-is_white-clause-texts c =
    let there = cut_there c.args.text.now c.as_bytes-bytes.result.now c.loop-index.index c.loop-index.invariant.whole c.loop-index-test.true (sym c.is_white.ensures ∙ c.if-is_white.true) in (
      subst IsUtf8 (sym c.split_at.ensures.front) (IsUtf8-take c.args.text.now c.loop-index.index c.utf8.text there),
      subst IsUtf8 (sym c.split_at.ensures.back) (IsUtf8-drop c.args.text.now c.loop-index.index c.utf8.text there),
    )

pub loop-index-preserved : goal.loop-index-preserved
loop-index-preserved c = record {
  word = no_space_next c.as_bytes-bytes.result.now c.loop-index.index c.loop-index-test.true c.loop-index.invariant.word (sym c.is_white.ensures ∙ c.if-is_white.false);
  whole = c.loop-index.invariant.whole;
}
