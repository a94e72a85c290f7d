use Rattle.std.proofs.Common.{List, ℕ, ◌++◌, sym, ap, ◌∙◌}
use Rattle.std.specs.Prelude.{encode_utf8_all}
use Rattle.std.proofs.lemmas.Str.{IsUtf8-string_bytes, chars_from_encodes}
use Rattle.exi_names.specs.Seen.{seen}
use Rattle.exi_lexical.specs.Values.{canonical}
use Rattle.exi_lexical.proofs.canonical.canon.Goals as goal

pub returns : goal.returns
returns c =
    let text = canonical (seen c.args.value.now) in
    let bytes = c.in_ok-put.ensures ∙ ap (λ (x : List ℕ). x ++ encode_utf8_all text) c.new-out.ensures.bytes in
    c.from_string.ensures ∙ sym (chars_from_encodes text _ (IsUtf8-string_bytes c.put.new.out) (sym bytes))
