use Rattle.std.proofs.Common.{◌≡◌, drop}
use Rattle.xsd_builtins.specs.BuiltIns.{built_in, built_in_names, place_among}
use Rattle.xsd_builtins.proofs.types.place_of.Given as goal

abbrev pub invariant-loop-place : goal.invariant-loop-place
invariant-loop-place l = place_among l.fn.name l.place (drop l.place built_in_names) ≡ built_in l.fn.name
