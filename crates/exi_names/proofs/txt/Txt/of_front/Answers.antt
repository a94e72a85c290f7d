use Rattle.exi_names.proofs.Texts.{front_chars, front_utf8}
use Rattle.exi_names.proofs.txt.Txt.of_front.Goals as goal

pub invariant_of-result : goal.invariant_of-result
invariant_of-result c = front_utf8 c.args.count c.args.bytes.now c.in_ok-of_front.field-0 c.requires.ascii c.in_ok-of_front.ensures

pub returns : goal.returns
returns c = front_chars c.args.count c.args.bytes.now c.in_ok-of_front.field-0 c.requires.ascii c.in_ok-of_front.ensures
