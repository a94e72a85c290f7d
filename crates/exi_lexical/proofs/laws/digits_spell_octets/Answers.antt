use Rattle.std.proofs.Common.{ap, ◌∙◌}
use Rattle.exi_lexical.specs.Binaries.{base64_octets}
use Rattle.exi_lexical.proofs.Hexes.{hex_read}
use Rattle.exi_lexical.proofs.Sixes.{text_is, text_read}
use Rattle.exi_lexical.proofs.laws.digits_spell_octets.Goals as goal

pub returns : goal.returns
returns c = record {
  base64 = λ t os bytes. (λ e. (text_is t os e).0, λ e. ap base64_octets e ∙ text_read os bytes);
  hex = λ os fits. hex_read os fits;
}
