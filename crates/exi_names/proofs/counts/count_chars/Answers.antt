use Rattle.exi_names.proofs.Counting.{begins-chars}
use Rattle.exi_names.proofs.counts.count_chars.Goals as goal

pub returns : goal.returns
returns c = rw (c.count_begins.ensures, c.as_bytes.ensures.value) (begins-chars c.args.text.now c.utf8.text)
