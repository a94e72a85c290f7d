use Rattle.std.proofs.Common.{get_or, sym, ap, ◌∙◌}
use Rattle.exi_text.specs.Literals.{all_xml}
use Rattle.exi_text.proofs.Runs.{plain_from, plain_text}
use Rattle.exi_text.proofs.set.is_writable.Goals as goal

pub returns-then-is_surely_plain : goal.returns-then-is_surely_plain
returns-then-is_surely_plain c =
    let plain = rw (← c.as_str-characters.ensures.bytes) at c.is_surely_plain.ensures c.if-is_surely_plain.true in
    sym (ap all_xml c.as_str-characters.ensures.chars ∙ plain_text c.as_str-characters.result.now (λ i lt. plain_from (get_or c.as_str-characters.result.now i 0) (plain i lt)))
