use Rattle.std.proofs.Common.{◌≡◌, ◌+◌, ◌++◌, filter, length, map, take}
use Rattle.exi_gram.specs.Codes.{coded_from}
use Rattle.exi_builtin.specs.BuiltIn.{is_kept}
use Rattle.exi_builtin.specs.CodeParts.{coded_of, parts_before}
use Rattle.exi_builtin.proofs.code_list.CodeList.add_kept.Given as goal

abbrev pub invariant-loop-production : goal.invariant-loop-production
invariant-loop-production l =
    (l.part ≡ l.from + length (filter (is_kept l.options) (take l.production-index l.productions)))
    × (map coded_of l.self ≡ map coded_of l.fn.self ++ coded_from (parts_before l.front) l.from (filter (is_kept l.options) (take l.production-index l.productions)))
