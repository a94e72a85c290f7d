use Rattle.std.proofs.Common.{◌∙◌}
use Rattle.std.specs.Prelude.{string_bytes}
use Rattle.std.proofs.lemmas.Str.{IsUtf8-string_bytes}
use Rattle.exi_evtext.proofs.Holds.{cut_behind}
use Rattle.exi_evtext.proofs.print.push_event.Goals as goal

pub truncate-requires : goal.truncate-requires
truncate-requires c =
    let old = c.args.line.now in
    let new = c.push_line.new.out in
    let cut = cut_behind (string_bytes old) (string_bytes new) c.len-start.result (c.len-start.ensures ∙ old.bytes.ok.0) c.in-Err.ensures.err (IsUtf8-string_bytes old) (IsUtf8-string_bytes new) in
    λ within. (cut.0, λ some lt. cut.1 lt)
