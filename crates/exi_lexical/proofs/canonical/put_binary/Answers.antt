use Rattle.std.proofs.Common.{Bool, arith, sym, ap, ◌∙◌}
use Rattle.exi_lexical.specs.Values.{binary_text}
use Rattle.exi_lexical.proofs.Appends.{appended_is}
use Rattle.exi_lexical.proofs.Graphic.{graphic_binary, graphic_bytes}
use Rattle.exi_lexical.proofs.canonical.put_binary.Goals as goal

pub returns-then-hex : goal.returns-then-hex
returns-then-hex c =
    let os = c.args.octets.now in
    let same = graphic_bytes (binary_text c.args.hex os) (graphic_binary c.args.hex os (λ i. omega (arith, c.type_inv.octets i))) in
    appended_is c.put_hex.result _ _ _ _ c.put_hex.ensures (ap (λ (b : Bool). binary_text b os) (sym c.if-hex.true) ∙ sym same)

pub returns-else-hex : goal.returns-else-hex
returns-else-hex c =
    let os = c.args.octets.now in
    let same = graphic_bytes (binary_text c.args.hex os) (graphic_binary c.args.hex os (λ i. omega (arith, c.type_inv.octets i))) in
    appended_is c.put_base64.result _ _ _ _ c.put_base64.ensures (ap (λ (b : Bool). binary_text b os) (sym c.if-hex.false) ∙ sym same)
