use Rattle.exi_text.proofs.Runs.{text_bits}
use Rattle.exi_text.proofs.write.put_codes.Goals as goal

pub returns-then-is_ascii-clause-ok : goal.returns-then-is_ascii-clause-ok
returns-then-is_ascii-clause-ok c = rw (text_bits c.args.align c.args.text.now c.if-is_ascii.ensures.cases, ← c.as_bytes.ensures.value) c.octets.ensures.ok
