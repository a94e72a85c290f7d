use Rattle.std.proofs.Common.{◌≡◌, drop}
use Rattle.std.specs.Map.{lookup}
use Rattle.std.specs.Str.{bytes_eq}
use Rattle.exi_tables.specs.Kept.{pairs_of}
use Rattle.exi_tables.proofs.list_texts.number_of.Given as goal

-- the number beside the text is among the items that are left
abbrev pub invariant-loop-item : goal.invariant-loop-item
invariant-loop-item l = lookup (bytes_eq l.text) (pairs_of (drop l.item-index l.items)) ≡ lookup (bytes_eq l.fn.text) (pairs_of l.fn.items)
