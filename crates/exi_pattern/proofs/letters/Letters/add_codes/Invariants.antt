use Rattle.std.proofs.Common.{◌≡◌, ◌-◌}
use Rattle.exi_pattern.specs.Sets.{with_codes}
use Rattle.exi_pattern.proofs.letters.Letters.add_codes.Given as goal

abbrev pub invariant-loop-code : goal.invariant-loop-code
invariant-loop-code l = with_codes l.code (l.code-end - l.code) l.self ≡ with_codes l.fn.first l.fn.count l.fn.self
