use Rattle.xsd_nodes.proofs.Words.{word_same}
use Rattle.xsd_nodes.proofs.text.is_text.Goals as goal

pub returns : goal.returns
returns c = word_same c.args.text.now c.as_str.result.now c.args.word.now c.eq.result c.as_str.ensures.bytes c.utf8.word c.eq.ensures
