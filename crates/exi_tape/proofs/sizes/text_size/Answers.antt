use Rattle.std.proofs.Common.{ap, sym, ◌∙◌, arith, length}
use Rattle.std.specs.Str.{chars, is_utf8}
use Rattle.std.proofs.lemmas.Str.{is_utf8-from_IsUtf8}
use Rattle.exi_tape.proofs.sizes.text_size.Goals as goal

pub returns-clause-sound : goal.returns-clause-sound
returns-clause-sound c =
    let bytes = sym c.as_str.ensures.bytes in (
      ap is_utf8 bytes ∙ is_utf8-from_IsUtf8 c.as_str.result.now c.as_str.utf8,
      ap chars bytes ∙ sym c.as_str.ensures.chars,
      omega (arith, ap length bytes, ap length c.as_bytes.ensures.value, c.octets_size.ensures.sound),
    )
