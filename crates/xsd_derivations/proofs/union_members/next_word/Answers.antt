use Rattle.std.proofs.Common.{◌∙◌, length, sym}
use Rattle.exi_lexical.proofs.Blanks.{is_none, is_some, no_word, word_cut}
use Rattle.xsd_derivations.proofs.union_members.next_word.Goals as goal

pub returns-then-is_empty-clause-words : goal.returns-then-is_empty-clause-words
returns-then-is_empty-clause-words c = no_word c.args.letters.now c.skip_front-rest.result.now c.skip_front-rest.ensures (is_none (length c.skip_front-rest.result.now) (sym c.is_empty.ensures ∙ c.if-is_empty.true))

pub returns-clause-words : goal.returns-clause-words
returns-clause-words c =
    let some = is_some (length c.skip_front-rest.result.now) (sym c.is_empty.ensures ∙ c.if-is_empty.false) in
    (word_cut c.args.letters.now c.skip_front-rest.result.now c.cut.result.0.now c.cut.result.1.now c.skip_front-rest.ensures some c.cut.ensures.parts c.cut.ensures.word c.cut.ensures.rest).0

pub returns-clause-shorter : goal.returns-clause-shorter
returns-clause-shorter c =
    let some = is_some (length c.skip_front-rest.result.now) (sym c.is_empty.ensures ∙ c.if-is_empty.false) in
    (word_cut c.args.letters.now c.skip_front-rest.result.now c.cut.result.0.now c.cut.result.1.now c.skip_front-rest.ensures some c.cut.ensures.parts c.cut.ensures.word c.cut.ensures.rest).1
