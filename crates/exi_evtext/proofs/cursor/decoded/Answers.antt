use Rattle.std.proofs.Common.{◌≡◌, ℕ, Global, Vec, refl, sym, ap, ◌∙◌}
use Rattle.std.specs.Str.{chars, is_utf8}
use Rattle.std.specs.String.{string_bytes}
use Rattle.std.proofs.lemmas.Str.{IsUtf8-string_bytes, is_utf8-from_IsUtf8}
use Rattle.exi_evtext.proofs.Cursors.{not_utf8}
use Rattle.exi_evtext.proofs.cursor.decoded.Goals as goal

pub returns-in-Ok : goal.returns-in-Ok
returns-in-Ok c =
    let same : string_bytes c.in-Ok.text ≡ c.args.bytes.items = ap (λ (v : Vec ℕ Global). v.items) c.in-Ok.ensures.ok in
    (ap is_utf8 (sym same) ∙ is_utf8-from_IsUtf8 (string_bytes c.in-Ok.text) (IsUtf8-string_bytes c.in-Ok.text), c.from_string.ensures ∙ ap chars same)

pub returns : goal.returns
returns c = (not_utf8 c.args.bytes.items (λ h. let k = c.in-Err.ensures.succeeds h in absurd cc), refl)
