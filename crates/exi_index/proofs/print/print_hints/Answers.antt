use Rattle.std.proofs.Common.{◌≡◌, ap, ◌∙◌, arith}
use Rattle.std.specs.Prelude.{encode_utf8_all, string_bytes}
use Rattle.std.proofs.lemmas.List.{take_all}
use Rattle.std.proofs.lemmas.Str.{IsUtf8-string_bytes, encodes-chars}
use Rattle.exi_index.specs.Hints.{lines_of}
use Rattle.exi_index.proofs.print.print_hints.Goals as goal

pub returns : goal.returns
returns c =
    ap encode_utf8_all c.from_string.ensures ∙ encodes-chars (string_bytes c.loop-hint.out) (IsUtf8-string_bytes c.loop-hint.out)
    ∙ c.loop-hint.invariant ∙ ap lines_of (take_all c.loop-hint.hint-index c.args.offsets.now (omega arith))
