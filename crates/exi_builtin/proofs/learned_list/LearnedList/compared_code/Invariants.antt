use Rattle.std.proofs.Common.{◌≡◌, ◌+◌, drop}
use Rattle.std.specs.Option.{option_map}
use Rattle.exi_builtin.specs.LeastCodes.{first_place, is_named}
use Rattle.exi_builtin.proofs.learned_list.LearnedList.compared_code.Given as goal

abbrev pub invariant-loop-code : goal.invariant-loop-code
invariant-loop-code l =
    first_place (is_named l.name l.attribute) l.self ≡ option_map (λ k. l.code + k) (first_place (is_named l.name l.attribute) (drop l.code l.self))
