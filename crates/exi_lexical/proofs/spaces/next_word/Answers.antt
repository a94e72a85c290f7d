use Rattle.std.proofs.Common.{◌∙◌, length, sym}
use Rattle.exi_lexical.proofs.Blanks.{is_none, is_some, word_cut, no_word}
use Rattle.exi_lexical.proofs.Letters.{chars_words, no_chars_words}
use Rattle.exi_lexical.proofs.spaces.next_word.Goals as goal

pub returns-then-is_empty-clause-words : goal.returns-then-is_empty-clause-words
returns-then-is_empty-clause-words c =
    no_chars_words c.args.text.now c.utf8.text
    (no_word c.args.text.now c.skip_front-rest.result.now c.skip_front-rest.ensures (is_none (length c.skip_front-rest.result.now) (sym c.is_empty.ensures ∙ c.if-is_empty.true)))

pub returns-clause-words : goal.returns-clause-words
returns-clause-words c =
    let some = is_some (length c.skip_front-rest.result.now) (sym c.is_empty.ensures ∙ c.if-is_empty.false) in
    let first = word_cut c.args.text.now c.skip_front-rest.result.now c.cut.result.0.now c.cut.result.1.now c.skip_front-rest.ensures some c.cut.ensures.parts c.cut.ensures.word c.cut.ensures.rest in
    chars_words c.args.text.now c.cut.result.0.now c.cut.result.1.now c.utf8.text c.cut.ensures.texts.0 c.cut.ensures.texts.1 first.0

pub returns-clause-shorter : goal.returns-clause-shorter
returns-clause-shorter c =
    let some = is_some (length c.skip_front-rest.result.now) (sym c.is_empty.ensures ∙ c.if-is_empty.false) in
    (word_cut c.args.text.now c.skip_front-rest.result.now c.cut.result.0.now c.cut.result.1.now c.skip_front-rest.ensures some c.cut.ensures.parts c.cut.ensures.word c.cut.ensures.rest).1
