use Rattle.std.proofs.Common.{◌≡◌, ◌≤◌, ◌+◌, drop, filter}
use Rattle.std.specs.Option.{option_map}
use Rattle.exi_builtin.specs.BuiltIn.{is_kept}
use Rattle.exi_builtin.specs.LeastCodes.{first_place, is_it}
use Rattle.exi_builtin.proofs.least_code.kept_place.Given as goal

abbrev pub invariant-loop-other : goal.invariant-loop-other
invariant-loop-other l =
    (first_place (is_it l.production) (filter (is_kept l.options) l.list) ≡ option_map (λ k. l.place + k) (first_place (is_it l.production) (filter (is_kept l.options) (drop l.other-index l.list))))
    × (l.place ≤ l.other-index)
