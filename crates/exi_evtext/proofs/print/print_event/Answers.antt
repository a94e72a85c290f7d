use Rattle.std.proofs.Common.{◌++◌, List, ℕ, ap, ◌∙◌}
use Rattle.std.specs.Prelude.{encode_utf8_all, string_bytes}
use Rattle.std.proofs.lemmas.Str.{IsUtf8-string_bytes, encodes-chars}
use Rattle.exi_names.specs.Shown.{shows}
use Rattle.exi_evtext.specs.Lines.{words}
use Rattle.exi_evtext.proofs.print.print_event.Goals as goal

pub returns : goal.returns
returns c =
    let bytes = string_bytes c.push_words.new.out in
    ap encode_utf8_all c.from_string.ensures ∙ encodes-chars bytes (IsUtf8-string_bytes c.push_words.new.out)
    ∙ c.in_ok-push_words.ensures.ok ∙ ap (λ (x : List ℕ). x ++ words (shows c.as_ref.result)) c.new-out.ensures.bytes ∙ ap words c.as_ref.ensures
