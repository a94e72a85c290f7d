use Rattle.std.proofs.Common.{arith, ◌∙◌}
use Rattle.exi_lexical.proofs.Hexes.{upper_is}
use Rattle.exi_lexical.proofs.Appends.{pushed_is}
use Rattle.exi_lexical.proofs.binaries.put_hex.Goals as goal

pub returns : goal.returns
returns c =
    pushed_is c.push_str.result _ _ c.as_str.result.now _ c.push_str.ensures.bytes
    (c.as_str.ensures.value ∙ c.in_ok-text.ensures ∙ upper_is c.args.octets.now (λ i. omega (arith, c.type_inv.octets i)))
