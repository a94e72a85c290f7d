use Rattle.exi_vocabulary.proofs.Words.{word_same}
use Rattle.exi_vocabulary.proofs.tables.is_text.Goals as goal

pub returns : goal.returns
returns c = word_same c.args.text.now c.as_str.result.now c.args.word.now c.eq.result c.as_str.ensures.bytes c.utf8.word c.eq.ensures
