-- Where a text keeps its UTF-8. No public clause cites this module.
use Rattle.std.specs.Prelude.{◌≡◌, ◌-◌, ◌^◌, ℕ, List, length, min}
use Rattle.std.specs.Str.{chars}
use Rattle.std.specs.String.{string_bytes}
use Rattle.exi_names.specs.declared.body.Form.{Form}
use Rattle.exi_names.specs.declared.body.Form.TheVariants.{Short, Long}

abbrev pub form_bytes : Form → List ℕ
form_bytes (Short a s) = s
form_bytes (Long n t) = string_bytes t

-- how many characters are kept of so many: all that a word of 32 bits tells, and the most of them where there are more
abbrev pub kept_count : ℕ → ℕ
kept_count n = min n (2 ^ 32 - 1)

-- a string's characters are counted
abbrev pub IsCounted : Form → Type 0
IsCounted (Short a s) = Unit {0}
IsCounted (Long n t) = n ≡ kept_count (length (chars (string_bytes t)))
