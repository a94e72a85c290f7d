use Rattle.std.proofs.Common.{◌≡◌, ◌+◌, ◌-◌, length}
use Rattle.xsd_contents.specs.Contents.{value_type, value_type_within}
use Rattle.xsd_contents.proofs.values.value_type.Given as goal

abbrev pub invariant-loop : goal.invariant-loop
invariant-loop l = value_type_within (length l.fn.schema + 1 - l.counter) l.fn.schema l.at ≡ value_type l.fn.schema l.fn.of
