use Rattle.exi_evtext.proofs.Straight.{last_parts}
use Rattle.exi_evtext.proofs.frequent.plain_value.Goals as goal

pub returns-clause-parts : goal.returns-clause-parts
returns-clause-parts c = last_parts c.plain_last.result c.args.bytes.now c.in_ok-inside_text.field-0.now c.in_ok-inside_text.ensures c.plain_last.ensures.plain c.plain_last.ensures.parts
