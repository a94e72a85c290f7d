use Rattle.exi_writer.proofs.SameTexts.{list_same_text, one_same_text}
use Rattle.exi_writer.proofs.laws.written_is_same_text.Goals as goal

pub returns : goal.returns
returns c = record { one = one_same_text; list = list_same_text }
