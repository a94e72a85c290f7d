use Rattle.std.proofs.Common.{◌≡◌}
use Rattle.std.specs.Map.{lookup}
use Rattle.std.specs.Str.{bytes_eq}
use Rattle.exi_tables.proofs.hash_texts.compared.Given as goal

-- what stands beside the text is among the entries that are left
abbrev pub invariant-loop-entry : goal.invariant-loop-entry
invariant-loop-entry l = lookup (bytes_eq l.text) l.entry-iterator ≡ lookup (bytes_eq l.fn.text) l.fn.numbers.entries
