use Rattle.std.proofs.Common.{◌≡◌, ◌+◌, ◌≤◌, length}
use denote.Text.{Utf8}
use denote.Shadow.{shadow}
use Rattle.std.specs.Str.{chars}
use Rattle.exi_names.specs.declared.val.TheConstants.{MOST_ITEMS}
use Rattle.exi_names.specs.Datatypes.{represented}
use Rattle.exi_names.specs.Seen.{vals}
use Rattle.exi_lexical.specs.Spaces.{words}
use Rattle.exi_lexical.specs.Values.{each_value, value}
use Rattle.exi_lexical.proofs.Lists.{behind}
use Rattle.exi_lexical.proofs.values.+value.Given as goal

abbrev pub invariant-list-loop-word : goal.invariant-list-loop-word
invariant-list-loop-word l =
    shadow (Utf8 l.rest)
    × (each_value (λ w. value (represented l.item) w) (words (chars l.text)) ≡ behind (vals l.items) (each_value (λ w. value (represented l.item) w) (words (chars l.rest))))
    × (length (words (chars l.text)) ≡ length (vals l.items) + length (words (chars l.rest)))
    × (length (vals l.items) ≤ MOST_ITEMS)

abbrev pub decreases-list-loop-word : goal.decreases-list-loop-word
decreases-list-loop-word l = length l.rest
