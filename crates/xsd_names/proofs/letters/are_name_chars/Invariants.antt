use Rattle.std.proofs.Common.{◌≡◌, drop}
use Rattle.std.specs.List.{list_all}
use Rattle.xsd_names.specs.Names.{is_name_char}
use Rattle.xsd_names.proofs.letters.are_name_chars.Given as goal

abbrev pub invariant-loop-c : goal.invariant-loop-c
invariant-loop-c l = list_all is_name_char (drop l.c-index l.fn.letters) ≡ list_all is_name_char l.fn.letters
