use Rattle.std.proofs.Common.{◌≡◌, ◌++◌, [], map, take}
use Rattle.exi_gram.specs.Codes.{coded_from}
use Rattle.exi_builtin.specs.CodeParts.{coded_of}
use Rattle.exi_builtin.proofs.code_list.CodeList.add_learned.Given as goal

abbrev pub invariant-loop-part : goal.invariant-loop-part
invariant-loop-part l = map coded_of l.self ≡ map coded_of l.fn.self ++ coded_from [] 0 (take l.part l.learned)
