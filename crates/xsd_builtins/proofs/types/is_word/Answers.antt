use Rattle.xsd_builtins.proofs.Words.{word_same}
use Rattle.xsd_builtins.proofs.types.is_word.Goals as goal

pub returns : goal.returns
returns c = word_same c.args.text.now c.as_str.result.now c.args.word.now c.eq.result c.as_str.ensures.bytes c.utf8.word c.eq.ensures
